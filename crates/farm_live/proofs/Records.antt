-- What a slot holds, what was seen of a book, and its posts.
use Rattle.std.proofs.Common.{◌≡◌, ℕ, zero, suc, ◌+◌, ◌≤◌, ◌<◌, ◌==◌, List, [], ◌∷◌, ◌++◌, length, drop, sym, refl, ap, ◌∙◌, subst, append_assoc, append-nil}
use Rattle.std.proofs.Common.{arith}
use Rattle.std.proofs.Math.Seq.{drop-append_seam}
use Rattle.std.proofs.lemmas.List.Elements.{filter-append}
use Rattle.farm_live.specs.declared.post.Post.{Post}
use Rattle.farm_live.specs.declared.slot.View.{View}
use Rattle.farm_live.specs.declared.slot.Token.{Token}
use Rattle.farm_live.specs.declared.slot.Token.TheVariants.{Here, Out}
use Rattle.farm_live.specs.Book.{BookState, record_of, of_caller, NumberedFrom}
use Rattle.trau_num.specs.Weights.{weigh}
use Rattle.farm_live.specs.Slot.{StartsWith, books, AllBooks, BeginsWith, AllSeen, own_posts, added}

-- ---- what the slot holds

-- tokens are books of the slot, or marks
pub books_append : (now : BookState) (xs ys : List Token) → AllBooks now xs → AllBooks now ys → AllBooks now (xs ++ ys)
books_append now [] ys a b = b
books_append now (x ∷ xs) ys a b = (a.0, books_append now xs ys a.1 b)

-- tokens without a book
pub no_books : (now : BookState) (xs : List Token) → weigh books xs ≡ 0 → AllBooks now xs
no_books now [] e = tt
no_books now (Here b ∷ xs) e = absurd (omega arith)
no_books now (Out ∷ xs) e = (tt, no_books now xs (omega arith))

pub no_tokens : (xs : List Token) → length xs ≡ 0 → weigh books xs ≡ 0
no_tokens [] e = refl
no_tokens (x ∷ xs) e = absurd (omega arith)

-- ---- what was seen

-- a book begins with itself
pub begins_itself : (k : BookState) → BeginsWith k k
begins_itself k = record { history = ([], sym (append-nil k.history)); posts = ([], sym (append-nil (record_of k))) }

-- a list that starts with a list starts with what that list starts with
pub further : {X : Type 0} (a b c : List X) → StartsWith a b → StartsWith b c → StartsWith a c
further a b c p q = (q.0 ++ p.0, p.1 ∙ ap (λ l. l ++ p.0) q.1 ∙ append_assoc c q.0 p.0)

-- a book that begins with a book begins with what that book begins with
pub begins_further : (a b c : BookState) → BeginsWith a b → BeginsWith b c → BeginsWith a c
begins_further a b c p
    q = record {
      history = further a.history b.history c.history p.history q.history;
      posts = further (record_of a) (record_of b) (record_of c) p.posts q.posts;
    }

-- what was seen of a book was seen of one that begins with it
pub seen_further : (a b : BookState) (ks : List BookState) → BeginsWith a b → AllSeen b ks → AllSeen a ks
seen_further a b [] p all = tt
seen_further a b (k ∷ ks) p all = (begins_further a b k p all.0, seen_further a b ks p all.1)

pub seen_append : (a : BookState) (xs ys : List BookState) → AllSeen a xs → AllSeen a ys → AllSeen a (xs ++ ys)
seen_append a [] ys p q = q
seen_append a (x ∷ xs) ys p q = (p.0, seen_append a xs ys p.1 q)

-- ---- the posts

-- where nothing is posted, nothing is a caller's own
pub own-nil : (n : ℕ) → own_posts n [] ≡ []
own-nil zero = refl
own-nil (suc n) = refl

-- a caller's own posts, with more of its own
pub own_grown : (n : ℕ) (ms ps ds : List Post) → ms ≡ own_posts n ps → (n ≡ 0 → ds ≡ []) → ms ++ ds ≡ own_posts n (ps ++ ds)
own_grown zero ms ps ds e none = ap (λ l. l ++ ds) e ∙ none refl
own_grown (suc n) ms ps ds e none = ap (λ l. l ++ ds) e

-- others' posts change nothing of them
pub own_else : (n : ℕ) (ps ds : List Post) → (0 < n → ds ≡ []) → own_posts n (ps ++ ds) ≡ own_posts n ps
own_else zero ps ds none = refl
own_else (suc n) ps ds none = ap (λ l. ps ++ l) (none (omega arith)) ∙ append-nil ps

-- fewer callers have no more posts
pub own-less : (n m : ℕ) (ps : List Post) → n ≤ m → own_posts m ps ≡ [] → own_posts n ps ≡ []
own-less zero m ps le e = refl
own-less (suc n) zero ps le e = absurd (omega arith)
own-less (suc n) (suc m) ps le e = e

-- the own posts of two views that have no caller in common
pub own_both : (n m : ℕ) (xs ys ps : List Post) → n + m ≤ 1 → xs ≡ own_posts n ps → ys ≡ own_posts m ps → xs ++ ys ≡ own_posts (n + m) ps
own_both zero m xs ys ps le p q = ap (λ l. l ++ ys) p ∙ q ∙ ap (λ k. own_posts k ps) (let e : m ≡ 0 + m = omega arith in e)
own_both (suc n) zero xs ys ps le p q = ap (λ l. xs ++ l) q ∙ append-nil xs ∙ p ∙ ap (λ k. own_posts k ps) (let e : suc n ≡ suc n + 0 = omega arith in e)
own_both (suc n) (suc m) xs ys ps le p q = absurd (omega arith)

-- posts that are numbered on
pub numbered-append : (n : ℕ) (xs ys : List Post) → NumberedFrom n xs → NumberedFrom (n + length xs) ys → NumberedFrom n (xs ++ ys)
numbered-append n [] ys p q = subst (λ k. NumberedFrom k ys) (omega arith) q
numbered-append n (x ∷ xs) ys p q = (p.0, numbered-append (suc n) xs ys p.1 (subst (λ k. NumberedFrom k ys) (omega arith) q))

-- a book that begins with what was taken is that and what was added
pub added_is : (v : View) (b : BookState) → BeginsWith b v.taken → record_of b ≡ record_of v.taken ++ added v b
added_is v b begins = begins.posts.1 ∙ ap (λ l. record_of v.taken ++ l)
    (sym (ap (drop (length (record_of v.taken))) begins.posts.1 ∙ drop-append_seam (record_of v.taken) begins.posts.0))

-- the record now, cut down to one caller: what it was, and what is new
pub cut_grown : (v : View) (b : BookState) (c : ℕ) → BeginsWith b v.taken → of_caller c (record_of b) ≡ of_caller c (record_of v.taken) ++ of_caller c
    (added v b)
cut_grown v b c begins = ap (of_caller c) (added_is v b begins) ∙ filter-append (λ (p : Post). p.caller == c) (record_of v.taken) (added v b)
