-- Each step keeps the rule of one slot.
use Rattle.std.proofs.Common.{◌≡◌, ◌≢◌, ℕ, zero, suc, ◌+◌, ◌≤◌, ◌<◌, true, false, ◌==◌, List, [], ◌∷◌, ◌++◌, set, length, sym, refl, ap, ◌∙◌, subst, ⊎_elim}
use Rattle.std.proofs.Common.{append-nil, length-append, arith}
use mathlib.Core.Option.{some}
use lib.ListN.{get_elem?}
use Rattle.std.proofs.lemmas.List.Elements.{filter-append}
use Rattle.std.proofs.lemmas.Bool.{cases_eq, cases_lt, true≢false}
use Rattle.crossbeam_queue.specs.Fifo.{Pushes, PopsFrom}
use Rattle.crossbeam_queue.proofs.Lists.{at_set}
use Rattle.farm_live.specs.declared.post.Post.{Post}
use Rattle.farm_live.specs.declared.slot.View.{View}
use Rattle.farm_live.specs.declared.slot.Token.TheVariants.{Here, Out}
use Rattle.farm_live.specs.Book.{BookState, record_of, of_caller, NumberedFrom}
use Rattle.trau_num.specs.Weights.{weigh}
use Rattle.farm_live.specs.Slot.{bit, is_at, times, all_callers, books, BeginsWith, number_of_callers, own_posts, FitsBook, IsRecord, IsSlot, missed, took}
use Rattle.farm_live.specs.Slot.{BookTells, Took, added, gave, Gave, May}
use Rattle.trau_num.proofs.Weights.{weigh-append, weigh_set, at-le}
use Rattle.farm_live.proofs.Weights.{both-le, none_weigh, once, has, held, callers_set, posts_made, all_callers_are, few_posts, no_callers}
use Rattle.farm_live.proofs.Records.{books_append, no_books, no_tokens, begins_itself, seen_further, own_grown, own_else, numbered-append, added_is, cut_grown}

-- ---- every view after a change of one

-- where each view fits the book, and a changed one does, all do
pub fits_set : (now : BookState) (views : List View) (port : ℕ) (w : View) → FitsBook now w → ((j : ℕ) (u : View) → j ≢ port → get_elem? views j ≡ some u →
    FitsBook now u) → (j : ℕ) (u : View) → get_elem? (set views port w) j ≡ some u → FitsBook now u
fits_set now views port w mine others j u e = ⊎_elim (λ (x : (j ≡ port) × (w ≡ u)). subst (FitsBook now) x.1 mine)
    (λ (x : (j ≢ port) × (get_elem? views j ≡ some u)). others j u x.0 x.1) (at_set views port j w u e)

-- ---- the steps

-- the mark is put into the slot
pub marks : (n port : ℕ) (v : View) → Pushes IsSlot n port v Out (λ w. w ≡ v)
marks n port v items views _ kept at = (
  v,
  (
    kept.0,
    omega (arith, kept.1, weigh_set held views port v v at, weigh-append books items (Out ∷ [])),
    books_append kept.0 items (Out ∷ []) kept.2 (tt, tt),
    kept.3,
    callers_set views port v v refl at kept.4,
    fits_set kept.0 views port v (kept.5 port v at) (λ j u _ e. kept.5 j u e),
    omega (arith, kept.6, weigh_set posts_made views port v v at),
  ),
  refl,
)

-- a view that fits still fits where only its counts changed
counted_fits : (now : BookState) (v : View) → FitsBook now v → FitsBook now (missed v)
counted_fits now v f = record { held = f.held; seen = f.seen; made = f.made; is_of = f.is_of; few = f.few; rest = f.rest }

-- the view that took the book fits it
took_fits : (now b : BookState) (v : View) → (c : ℕ) × (0 < times c v.callers) → b ≡ now → FitsBook now v → FitsBook now (took v b)
took_fits now b v one same f = record {
  held = λ _. same;
  seen = (subst (λ k. BeginsWith k b) same (begins_itself b), tt);
  made = f.made;
  is_of = f.is_of;
  few = f.few;
  rest = λ none. absurd (let e : times one.0 v.callers ≡ 0 = ap (times one.0) none in let at = one.1 in omega arith);
}

-- ---- one that has all callers' numbers doesn't find the mark

-- where a view has all callers' numbers and doesn't have the book, no view has it
none_holds : (now : BookState) (views : List View) (port : ℕ) (v : View) → v.holds ≡ false → get_elem? views port ≡ some v →
    ((h : ℕ → ℕ) → weigh (has h) views ≡ weigh h all_callers) →
    ((j : ℕ) (u : View) → get_elem? views j ≡ some u → FitsBook now u) → 64 ≤ number_of_callers v → weigh held views ≡ 0
none_holds now views port v free at all fit mine = none_weigh held views (λ j u e. ⊎_elim
    (λ (same : j ≡ port).
    let there : get_elem? views port ≡ some u = subst (λ (i : ℕ). get_elem? views i ≡ some u) same e in
    let is : v ≡ u = cc in
    ap (λ (x : View). bit x.holds) (sym is) ∙ ap bit free)
    (λ (ne : j ≢ port).
    let le = both-le (has (λ _. 1)) views port j v u ne at e in
    let none : weigh (λ _. 1) u.callers ≡ 0 = omega (arith, le, all (λ _. 1), mine, all_callers_are) in
    ap bit ((fit j u e).rest (no_callers u.callers none)))
    (cases_eq j port))

-- the book is taken, or the mark is found
pub takes : (n port : ℕ) (v : View) → n ≡ 1 → (c : ℕ) × (0 < times c v.callers) → v.holds ≡ false → PopsFrom IsSlot n port v (Took v)
takes n port v one some_caller free (Here b) items views _ kept at =
    let w : View = took v b in
    let none : bit v.holds ≡ 0 = ap bit free in
    let f = kept.5 port v at in (
      w,
      (
        kept.0,
        omega (arith, kept.1, weigh_set held views port v w at),
        kept.2.1,
        kept.3,
        callers_set views port v w refl at kept.4,
        fits_set kept.0 views port w (took_fits kept.0 b v some_caller kept.2.0 f) (λ j u _ e. kept.5 j u e),
        omega (arith, kept.6, weigh_set posts_made views port v w at),
      ),
      (
        refl,
        subst (BookTells v) (sym kept.2.0)
            (record { seen = f.seen; made = f.made; is_of = f.is_of; posts = kept.3; few = few_posts kept.0 views kept.5 kept.4 kept.6; mine = f.few }),
      ),
    )
takes n port v one some_caller free Out items views long kept at = let w : View = missed v in (
  w,
  (
    kept.0,
    omega (arith, kept.1, weigh_set held views port v w at),
    kept.2.1,
    kept.3,
    callers_set views port v w refl at kept.4,
    fits_set kept.0 views port w (counted_fits kept.0 v (kept.5 port v at)) (λ j u _ e. kept.5 j u e),
    omega (arith, kept.6, weigh_set posts_made views port v w at),
  ),
  record {
    counted = refl;
    others = ⊎_elim (λ (fewer : number_of_callers v < 64). fewer)
        (λ (all : 64 ≤ number_of_callers v).
        let none = none_holds kept.0 views port v free at kept.4 kept.5 all in
        let empty = no_tokens items (omega (arith, long, one)) in
        absurd (omega (arith, kept.1, none, empty)))
        (cases_lt (number_of_callers v) 64);
  },
)

-- who has the book finds the mark
pub finds_mark : (n port : ℕ) (v : View) → v.holds ≡ true → PopsFrom IsSlot n port v (λ _ w. w ≡ v)
finds_mark n port v mine (Here b) items views _ kept at = let one : bit v.holds ≡ 1 = ap bit mine in absurd (omega (arith, kept.1, at-le held views port v at))
finds_mark n port v mine Out items views _ kept at = (
  v,
  (
    kept.0,
    omega (arith, kept.1, weigh_set held views port v v at),
    kept.2.1,
    kept.3,
    callers_set views port v v refl at kept.4,
    fits_set kept.0 views port v (kept.5 port v at) (λ j u _ e. kept.5 j u e),
    omega (arith, kept.6, weigh_set posts_made views port v v at),
  ),
  refl,
)

-- what is new of a caller is new in the one view that has this caller
not_mine : (views : List View) (port j : ℕ) (v u : View) (c : ℕ) → ((h : ℕ → ℕ) → weigh (has h) views ≡ weigh h all_callers) → get_elem? views port ≡ some v →
    get_elem? views j ≡ some u → j ≢ port
    → 0 < times c u.callers → times c v.callers ≡ 0
not_mine views port j v u c all at b ne has_it = omega (arith, once c, all (is_at c), both-le (has (is_at c)) views port j v u ne at b)

-- the view that gave the book back fits it
gave_fits : (v : View) (b : BookState) → FitsBook v.taken v → May v b → FitsBook b (gave v b)
gave_fits v b f may = record {
  held = λ p. absurd (true≢false (sym p));
  seen = (begins_itself b, tt);
  made = λ c. filter-append (λ (p : Post). p.caller == c) v.made (added v b)
      ∙ own_grown (times c v.callers) (of_caller c v.made) (of_caller c (record_of v.taken)) (of_caller c (added v b)) (f.made c) (may.own c)
      ∙ ap (own_posts (times c v.callers)) (sym (cut_grown v b c may.begins));
  is_of = λ c _. refl;
  few = may.few;
  rest = λ _. refl;
}

-- the others' call is that of the book
call_of_others : (views : List View) (port j : ℕ) (v u : View) (b : BookState) → ((h : ℕ → ℕ) → weigh (has h) views ≡ weigh h all_callers) →
    get_elem? views port ≡ some v → get_elem? views j ≡ some u → j ≢ port
    → FitsBook v.taken u → May v b → (c : ℕ) → 0 < times c u.callers → u.is_of ≡ b.is_of
call_of_others views port j v u b all at e ne f may c has_it =
    ⊎_elim (λ (x : (b.is_of ≡ v.taken.is_of) × (v.is_of ≡ v.taken.is_of)). f.is_of c has_it ∙ sym x.0)
    (λ (x : (h : ℕ → ℕ) → weigh h v.callers ≡ weigh h all_callers). absurd
    (omega (arith, x (is_at c), all (is_at c), both-le (has (is_at c)) views port j v u ne at e)))
    may.is_of

-- the other views fit it too
others_fit : (views : List View) (port j : ℕ) (v u : View) (b : BookState) → v.holds ≡ true → weigh held views ≤ 1 →
    ((h : ℕ → ℕ) → weigh (has h) views ≡ weigh h all_callers)
    → get_elem? views port ≡ some v → get_elem? views j ≡ some u → j ≢ port → FitsBook v.taken u → May v b → FitsBook b u
others_fit views port j v u b mine few all at e ne f may = record {
  held = λ p. absurd (let one : bit v.holds ≡ 1 = ap bit mine in let two : bit u.holds
      ≡ 1 = ap bit p in omega (arith, few, both-le held views port j v u ne at e));
  seen = seen_further b v.taken u.seen may.begins f.seen;
  made = λ c. f.made c ∙ sym (own_else (times c u.callers) (of_caller c (record_of v.taken)) (of_caller c (added v b))
      (λ has_it. may.own c (not_mine views port j v u c all at e ne has_it)))
      ∙ ap (own_posts (times c u.callers)) (sym (cut_grown v b c may.begins));
  is_of = call_of_others views port j v u b all at e ne f may;
  few = f.few;
  rest = f.rest;
}

-- the numbers go on where the view's callers posted, and nowhere else
numbers_go_on : (n : ℕ) (ms ps ds : List Post) → ms ≡ own_posts n ps → (n ≡ 0 → ds ≡ []) → NumberedFrom 0 ps → NumberedFrom (length ms) ds →
    NumberedFrom 0 (ps ++ ds)
numbers_go_on zero ms ps ds e none p q = subst (λ l. NumberedFrom 0 (ps ++ l)) (sym (none refl)) (subst (NumberedFrom 0) (sym (append-nil ps)) p)
numbers_go_on (suc n) ms ps ds e none p q = numbered-append 0 ps ds p
    (subst (λ k. NumberedFrom k ds) (ap length e ∙ (let z : length ps ≡ 0 + length ps = omega arith in z)) q)

record_grown : (v : View) (b : BookState) → ((c : ℕ) → times c v.callers ≤ times c all_callers) → FitsBook v.taken v → IsRecord (record_of v.taken) → May v b →
    IsRecord (record_of b)
record_grown v b few f r may = record {
  numbered = λ c. subst (NumberedFrom 0) (sym (cut_grown v b c may.begins))
      (numbers_go_on (times c v.callers) (of_caller c v.made) (of_caller c (record_of v.taken)) (of_caller c (added v b)) (f.made c) (may.own c) (r.numbered c)
      (may.numbered c));
  known = λ c none. cut_grown v b c may.begins ∙ ap (λ l. l ++ of_caller c (added v b)) (r.known c none) ∙ may.own c (omega (arith, few c));
}

-- as many posts are in the book as all views made
posts_counted : (v : View) (b : BookState) (views : List View) (port : ℕ) → length (record_of v.taken) ≡ weigh posts_made views → get_elem? views port
    ≡ some v → BeginsWith b v.taken
    → length (record_of b) ≡ weigh posts_made (set views port (gave v b))
posts_counted v b views port total at begins =
    let grown = ap length (added_is v b begins) ∙ length-append (record_of v.taken) (added v b) in
    let mine = length-append v.made (added v b) in
    let counted = weigh_set posts_made views port v (gave v b) at in
    omega arith

-- the book is given back
pub gives : (n port : ℕ) (v : View) (b : BookState) → v.holds ≡ true → May v b → Pushes IsSlot n port v (Here b) (Gave v (Here b))
gives n port v b mine may items views _ kept at =
    let w : View = gave v b in
    let one : bit v.holds ≡ 1 = ap bit mine in
    let le = at-le held views port v at in
    let was : v.taken ≡ kept.0 = (kept.5 port v at).held mine in
    let empty : weigh books items ≡ 0 = omega (arith, kept.1) in
    let f : (j : ℕ) (u : View) → get_elem? views j ≡ some u → FitsBook v.taken u = λ j u e. subst (λ k. FitsBook k u) (sym was) (kept.5 j u e) in
    let r : IsRecord (record_of v.taken) = subst (λ k. IsRecord (record_of k)) (sym was) kept.3 in (
      w,
      (
        b,
        omega (arith, kept.1, weigh_set held views port v w at, weigh-append books items (Here b ∷ [])),
        books_append b items (Here b ∷ []) (no_books b items empty) (refl, tt),
        record_grown v b (λ c. omega (arith, kept.4 (is_at c), at-le (has (is_at c)) views port v at)) (f port v at) r may,
        callers_set views port v w refl at kept.4,
        fits_set b views port w (gave_fits v b (f port v at) may) (λ j u ne e. others_fit views port j v u b mine (omega (arith, kept.1)) kept.4 at e ne
            (f j u e) may),
        posts_counted v b views port (omega (arith, kept.6, ap (λ k. length (record_of k)) was)) at may.begins,
      ),
      refl,
    )
