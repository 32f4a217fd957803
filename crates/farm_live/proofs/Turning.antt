-- What a caller's functions do with a slot: the book as it was taken, and as it was given back; and the first book.
use Rattle.std.proofs.Common.{◌≡◌, ℕ, ◌*◌, ◌<◌, ◌≤◌, true, false, ◌==◌, List, [], ◌∷◌, ◌++◌, length, drop, map, MatchResult, MatchOption, Option, Some, None}
use Rattle.std.proofs.Common.{Result, Ok, Err, sym, refl, ap, ⊎_elim, ◌∙◌, subst, length-append, inr, arith}
use mathlib.Core.Bool.{cond}
use Rattle.std.proofs.lemmas.List.{length-map}
use Rattle.std.proofs.Math.Seq.{drop-nil}
use Rattle.std.proofs.lemmas.Bool.{cases_Bool}
use Rattle.farm_live.specs.declared.post.BookOf.{BookOf}
use Rattle.farm_live.specs.declared.post.Post.{Post}
use Rattle.farm_live.specs.declared.post.Entry.{Entry}
use Rattle.farm_live.specs.declared.slot.View.{View}
use Rattle.farm_live.specs.Book.{BookState, record_of, of_caller, NumberedFrom, IsLegal, with_post, Worked, no_book, empty_book, most_posts}
use Rattle.farm_live.specs.Slot.{number_of_callers, all_callers, added, took, gave, May, founder}
use Rattle.farm_live.specs.Turns.{Held, Turned, Looked, HasWorkedPost, new_view}
use Rattle.farm_live.proofs.Taking.{may_same, turned_same, turned_post, may_work, did_work}

-- ---- as the functions meet them: v before, w with the book b in hand, u after it was given back as `back`

-- the same, where the view is said to be the one that took the book
pub may_give : (v w : View) (b back : BookState) → w ≡ took v b → May (took v b) back → May w back
may_give v w b back is may = subst (λ x. May x back) (sym is) may

-- what the taking told, by the view after it
pub held_as : (v w : View) (b : BookState) → w ≡ took v b → Held v w → Held v (took v b)
held_as v w b is h = subst (Held v) is h

-- the view after the giving back
given_as : (v w u : View) (b back : BookState) → w ≡ took v b → u ≡ gave w back → gave (took v b) back ≡ u
given_as v w u b back is given = ap (λ x. gave x back) (sym is) ∙ sym given

-- a post was accepted
pub posted_at : (v w u : View) (b back : BookState) (x : Post) → w ≡ took v b → Held v w → back ≡ with_post b x → u ≡ gave w back →
    length b.inbox < b.is_of.room
    → Turned v u (with_post u.taken x) (x ∷ []) × (length u.taken.inbox < v.is_of.room)
posted_at v w u b back x is h to given short =
    let t = held_as v w b is h in
    let e : gave (took v b) (with_post b x) ≡ u = ap (λ k. gave (took v b) k) (sym to) ∙ given_as v w u b back is given in
    subst (λ y. Turned v y (with_post y.taken x) (x ∷ []) × (length y.taken.inbox < v.is_of.room)) e
    (turned_post v b x t, subst (λ (n : BookOf). length b.inbox < n.room) t.is_of short)

-- a post was worked
pub did_at : (v w u : View) (b back : BookState) (e : Entry) → w ≡ took v b → Held v w → Worked b e back → IsLegal back.is_of.call back.history →
    u ≡ gave w back → HasWorkedPost v u e
did_at v w u b back e is h worked legal given = subst (λ y. HasWorkedPost v y e) (given_as v w u b back is given)
    (did_work v b back e (held_as v w b is h) worked legal)

-- whatever the work answers
-- an answer with an entry
pub worked_some : {E : Type 0} (b back : BookState) (r : Result (Option Entry) E) (o : Option Entry) (e : Entry) → r ≡ Ok o → o ≡ Some e →
    MatchResult r (λ o. MatchOption o ((b.inbox ≡ []) × (back ≡ b)) (λ e. Worked b e back)) (λ _. back ≡ b) → Worked b e back
worked_some {E} b back r o e p q answer = subst (λ (x : Option Entry). MatchOption x ((b.inbox ≡ []) × (back ≡ b)) (λ e. Worked b e back)) q
    (subst (λ (x : Result (Option Entry) E). MatchResult x (λ o. MatchOption o ((b.inbox ≡ []) × (back ≡ b)) (λ e. Worked b e back)) (λ _. back ≡ b)) p answer)

-- an answer without one
pub worked_none : {E : Type 0} (b back : BookState) (r : Result (Option Entry) E) (o : Option Entry) → r ≡ Ok o → o ≡ None →
    MatchResult r (λ o. MatchOption o ((b.inbox ≡ []) × (back ≡ b)) (λ e. Worked b e back)) (λ _. back ≡ b) → (b.inbox ≡ []) × (back ≡ b)
worked_none {E} b back r o p q answer = subst (λ (x : Option Entry). MatchOption x ((b.inbox ≡ []) × (back ≡ b)) (λ e. Worked b e back)) q
    (subst (λ (x : Result (Option Entry) E). MatchResult x (λ o. MatchOption o ((b.inbox ≡ []) × (back ≡ b)) (λ e. Worked b e back)) (λ _. back ≡ b)) p answer)

-- no answer, for want of memory
pub worked_err : {E : Type 0} (b back : BookState) (r : Result (Option Entry) E) (e : E) → r ≡ Err e →
    MatchResult r (λ o. MatchOption o ((b.inbox ≡ []) × (back ≡ b)) (λ e. Worked b e back)) (λ _. back ≡ b) → back ≡ b
worked_err {E} b back r e p answer =
    subst (λ (x : Result (Option Entry) E). MatchResult x (λ o. MatchOption o ((b.inbox ≡ []) × (back ≡ b)) (λ e. Worked b e back)) (λ _. back ≡ b)) p answer

-- whatever came of working, the book may be given back
pub may_worked : {E : Type 0} (v : View) (b back : BookState) (r : Result (Option Entry) E) → Held v (took v b) →
    MatchResult r (λ o. MatchOption o ((b.inbox ≡ []) × (back ≡ b)) (λ e. Worked b e back)) (λ _. back ≡ b) → May (took v b) back
may_worked v b back (Ok (Some e)) h answer = may_work v b back e h answer
may_worked v b back (Ok None) h answer = subst (May (took v b)) (sym answer.1) (may_same v b h)
may_worked v b back (Err e) h answer = subst (May (took v b)) (sym answer) (may_same v b h)

-- ---- the first book

no_posts : (is_of : BookOf) → record_of (empty_book is_of) ≡ []
unfolding record_of
no_posts is_of = refl

nothing_at : (xs ys : List Post) → ys ≡ [] → drop (length xs) ys ≡ []
nothing_at xs ys e = ap (drop (length xs)) e ∙ drop-nil (length xs)

-- an empty book adds no post to the one that isn't there yet
none_added : (is_of : BookOf) → added founder (empty_book is_of) ≡ []
none_added is_of = nothing_at (record_of no_book) (record_of (empty_book is_of)) (no_posts is_of)

no_book_posts : record_of no_book ≡ []
unfolding record_of
no_book_posts = refl

-- so the first view may give it
pub may_first : (is_of : BookOf) → May founder (empty_book is_of)
may_first is_of = record {
  begins = record { history = ([], refl); posts = ([], no_posts is_of ∙ sym (ap (λ l. l ++ []) no_book_posts)) };
  own = λ c _. ap (of_caller c) (none_added is_of);
  numbered = λ c. subst (λ l. NumberedFrom 0 (of_caller c l)) (sym (none_added is_of)) tt;
  few = subst (λ l. length l ≤ 16777216 * number_of_callers founder) (sym (none_added is_of)) (omega arith);
  is_of = inr (λ h. refl);
}

pub gave_first : (is_of : BookOf) → gave founder (empty_book is_of) ≡ new_view all_callers is_of
gave_first is_of = ap (λ l. record (gave founder (empty_book is_of)) { made = l }) (none_added is_of)

pub may_first_at : (v : View) (b : BookState) (is_of : BookOf) → v ≡ founder → b ≡ empty_book is_of → May v b
may_first_at v b is_of p q = subst (λ x. May x b) (sym p) (subst (λ y. May founder y) (sym q) (may_first is_of))

pub opened_at : (v w : View) (b : BookState) (is_of : BookOf) → v ≡ founder → b ≡ empty_book is_of → w ≡ gave v b → w ≡ new_view all_callers is_of
opened_at v w b is_of p q given = given ∙ ap (λ x. gave x b) p ∙ ap (λ y. gave founder y) q ∙ gave_first is_of

-- a history can go on
pub goes_on : (b : BookState) → length (record_of b) ≤ most_posts → length b.history < 4294967295
unfolding record_of
goes_on b few = let posts = length-append (map (λ (e : Entry). e.post) b.history) b.inbox in let same = length-map b.history (λ (e : Entry). e.post) in omega
    arith

-- the book was given back as it was taken
pub looked_at : (v w u : View) (b back : BookState) → w ≡ took v b → Held v w → back ≡ b → u ≡ gave w back → Looked v u × (u.taken ≡ b)
looked_at v w u b back is h same given =
    let e : gave (took v b) b ≡ u = ap (λ k. gave (took v b) k) (sym same) ∙ given_as v w u b back is given in
    subst (λ (y : View). Looked v y × (y.taken ≡ b)) e (turned_same v b (held_as v w b is h), refl)

-- the inbox was full
pub full_at : (v w u : View) (b back : BookState) → w ≡ took v b → Held v w → back ≡ b → u ≡ gave w back → length b.inbox ≡ b.is_of.room
    → Looked v u × (length u.taken.inbox ≡ v.is_of.room)
full_at v w u b back is h same given full =
    let looked = looked_at v w u b back is h same given in
    (looked.0, ap (λ k. length k.inbox) looked.1 ∙ full ∙ ap (λ (n : BookOf). n.room) (held_as v w b is h).is_of)

-- how many entries were before the one that was worked
pub placed_at : (v w u : View) (b back : BookState) (n : ℕ) → w ≡ took v b → u ≡ gave w back → n ≡ length b.history → n ≡ length u.taken.history
placed_at v w u b back n is given e = e ∙ ap (λ (y : View). length y.taken.history) (given_as v w u b back is given)

-- no caller has more posts than there are
pub own-few : (c : ℕ) (ps : List Post) → length (of_caller c ps) ≤ length ps
own-few c [] = omega arith
own-few c (p ∷ ps) =
    ⊎_elim (λ (e : (p.caller == c) ≡ true). let q : length (of_caller c (p ∷ ps)) ≡ length (p ∷ of_caller c ps) = ap
    (λ t. length (cond t (p ∷ of_caller c ps) (of_caller c ps))) e in omega (arith, own-few c ps))
    (λ (e : (p.caller == c) ≡ false). let q : length (of_caller c (p ∷ ps)) ≡ length (of_caller c ps) = ap
    (λ t. length (cond t (p ∷ of_caller c ps) (of_caller c ps))) e in omega (arith, own-few c ps)) (cases_Bool (p.caller == c))
