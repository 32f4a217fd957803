-- The posts of a call that one caller alone posted to: all were worked where the last was seen.
use Rattle.std.proofs.Common.{◌≡◌, ◌≢◌, ℕ, zero, suc, ◌+◌, ◌-◌, ◌<◌, ◌≤◌, Bool, true, false, ◌==◌, ◌&&◌, inl, inr, Some, List, [], ◌∷◌, ◌++◌, length, map, find}
use Rattle.std.proofs.Common.{refl, sym, ap, ◌∙◌, subst, ⊎_elim, append_assoc, append-nil, length-append, arith}
use mathlib.Core.Bool.{cond}
use Rattle.std.specs.Prelude.{is_none}
use Rattle.std.proofs.lemmas.Bool.{cases_Bool, cases_lt, eq-eqb, ne_eqb, eqb-true, true≢false}
use Rattle.std.proofs.lemmas.List.{map-append, length-map}
use Rattle.farm_live.specs.declared.post.Post.{Post}
use Rattle.farm_live.specs.declared.post.Entry.{Entry}
use Rattle.farm_live.specs.declared.slot.View.{View}
use Rattle.farm_live.specs.Book.{BookState, record_of, of_caller, NumberedFrom, is_of_post}
use Rattle.farm_live.specs.Slot.{times, all_callers, BeginsWith, own_posts}
use Rattle.farm_live.specs.Turns.{Closes}
use Rattle.live_run.specs.Posts.{drawn_posts}
use Rattle.live_run.proofs.Drawn.{drawn_of, drawn_of_none, length-drawn}

-- ---- the posts of one caller alone

-- posts of no other caller are all this one's
only_of : (o : ℕ) (xs : List Post) → ((c : ℕ) → c ≢ o → of_caller c xs ≡ []) → of_caller o xs ≡ xs
only_of o [] none = refl
only_of o (x ∷ xs) none = ⊎_elim
    (λ (e : (x.caller == o) ≡ true).
    let is : x.caller ≡ o = eqb-true x.caller o e in
    let rest : (c : ℕ) → c ≢ o → of_caller c xs ≡ [] = λ c ne.
    (let t : (x.caller == c) ≡ false = ne_eqb x.caller c (λ (q : x.caller ≡ c). ne (sym q ∙ is)) in
    sym (ap (λ (b : Bool). cond b (x ∷ of_caller c xs) (of_caller c xs)) t) ∙ none c ne) in
    ap (λ (b : Bool). cond b (x ∷ of_caller o xs) (of_caller o xs)) e ∙ ap (λ (ps : List Post). x ∷ ps) (only_of o xs rest))
    (λ (e : (x.caller == o) ≡ false).
    let itself : (x.caller == x.caller) ≡ true = eq-eqb x.caller x.caller refl in
    let ne : x.caller ≢ o = λ (q : x.caller ≡ o). true≢false (sym (eq-eqb x.caller o q) ∙ e) in
    let some : of_caller x.caller (x ∷ xs) ≡ x ∷ of_caller x.caller xs =
    ap (λ (b : Bool). cond b (x ∷ of_caller x.caller xs) (of_caller x.caller xs)) itself in
    absurd (let long : length (x ∷ of_caller x.caller xs) ≡ 0 = ap length (sym some ∙ none x.caller ne) in omega arith))
    (cases_Bool (x.caller == o))

-- a number that was given has its posts
own_some : (n : ℕ) (ps : List Post) → 0 < n → own_posts n ps ≡ ps
own_some zero ps h = absurd (omega arith)
own_some (suc n) ps h = refl

-- a book that is closed by all callers, of which one has made posts, has these posts
pub record_is : (v : View) (b : BookState) (seed o call n : ℕ) → Closes v b → v.made ≡ drawn_posts seed o call n →
    ((c : ℕ) → 0 < times c all_callers → 0 < times c v.callers) → record_of b ≡ drawn_posts seed o call n
record_is v b seed o call n closes made all =
    sym (only_of o (record_of b) (λ c ne. each c ∙ ap (of_caller c) made ∙ drawn_of_none seed o call c n (λ e. ne (sym e)))) ∙ each o
    ∙ ap (of_caller o) made ∙ drawn_of seed o call n
  where
    each : (c : ℕ) → of_caller c (record_of b) ≡ of_caller c v.made
    each c = elim (cases_lt 0 (times c v.callers)) [
      | inl some ↦ sym (closes.made c ∙ own_some (times c v.callers) (of_caller c (record_of b)) some)
      | inr none ↦
          let zero_times : times c v.callers ≡ 0 = omega (arith, none) in
          let unknown : times c all_callers ≡ 0 = elim (cases_lt 0 (times c all_callers)) [
            | inl some ↦ absurd (omega (arith, all c some, zero_times))
            | inr less ↦ omega (arith, less)
          ] in
          closes.known c unknown ∙ sym (closes.made c ∙ ap (λ (m : ℕ). own_posts m (of_caller c (record_of b))) zero_times)
    ]

-- ---- the last post was worked

and_second : (a b : Bool) → (a && b) ≡ true → b ≡ true
and_second true b e = e
and_second false b e = absurd (true≢false (sym e))

-- a post that is found has a number of these entries
numbered_before : (o m n : ℕ) (es : List Entry) (rest : List Post) (e : Entry) → NumberedFrom n (map (λ x. x.post) es ++ rest) →
    find (is_of_post o m) es ≡ Some e → m < n + length es
numbered_before o m n [] rest e numbered found = absurd (true≢false (ap is_none found))
numbered_before o m n (x ∷ es) rest e numbered found = ⊎_elim
    (λ (t : is_of_post o m x ≡ true).
    let is : x.post.number ≡ m = eqb-true x.post.number m (and_second (x.post.caller == o) (x.post.number == m) t) in let at = numbered.0 in omega arith)
    (λ (t : is_of_post o m x ≡ false).
    let still = sym (ap (λ (b : Bool). cond b (Some x) (find (is_of_post o m) es)) t) ∙ found in
    let later = numbered_before o m (suc n) es rest e numbered.1 still in omega arith)
    (cases_Bool (is_of_post o m x))

no_items : (xs : List Post) → length xs ≡ 0 → xs ≡ []
no_items [] e = refl
no_items (x ∷ xs) e = absurd (omega arith)

-- a book in which the last post was found worked has worked all, in their order
pub all_worked : (seed o call n : ℕ) (b k : BookState) (e : Entry) → 1 ≤ n → record_of b ≡ drawn_posts seed o call n → NumberedFrom 0 (record_of b) →
    BeginsWith b k → find (is_of_post o (n - 1)) k.history ≡ Some e → map (λ x. x.post) b.history ≡ drawn_posts seed o call n
unfolding record_of
all_worked seed o call n b k e some is numbered begins found =
    let post : Entry → Post = λ x. x.post in
    let rest = begins.history.0 in
    let parts : record_of b ≡ map post k.history ++ (map post rest ++ b.inbox) =
    ap (λ (es : List Entry). map post es ++ b.inbox) begins.history.1 ∙ ap (λ (ps : List Post). ps ++ b.inbox) (map-append post k.history rest)
    ∙ append_assoc (map post k.history) (map post rest) b.inbox in
    let before = numbered_before o (n - 1) 0 k.history (map post rest ++ b.inbox) e (subst (NumberedFrom 0) parts numbered) found in
    let long : length (map post b.history ++ b.inbox) ≡ n = ap length is ∙ length-drawn seed o call n in
    let none : length b.inbox ≡ 0 =
    omega (
      arith,
      before,
      some,
      long,
      length-append (map post b.history) b.inbox,
      length-map b.history post,
      ap length begins.history.1,
      length-append k.history rest,
    ) in
    sym (append-nil (map post b.history)) ∙ ap (λ (ps : List Post). map post b.history ++ ps) (sym (no_items b.inbox none)) ∙ is
