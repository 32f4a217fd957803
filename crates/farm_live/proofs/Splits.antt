-- Making, splitting and joining passes keeps the rule of one slot.
use Rattle.std.proofs.Common.{◌≡◌, ◌≢◌, ℕ, zero, suc, ◌+◌, ◌≤◌, ◌<◌, true, false, ◌==◌, List, [], ◌∷◌, ◌++◌, set, length, drop, take, sym, refl, ap, ◌∙◌, subst}
use Rattle.std.proofs.Common.{⊎_elim, length-append, arith}
use mathlib.Core.Option.{some, some-ne-none}
use lib.ListN.{get_elem?}
use Rattle.std.proofs.lemmas.List.Elements.{filter-append}
use Rattle.std.proofs.lemmas.Bool.{true≢false}
use Rattle.crossbeam_queue.specs.Fifo.{Forks, Merges}
use Rattle.crossbeam_queue.proofs.Lists.{at_set, at_snoc}
use Rattle.farm_live.specs.declared.post.Post.{Post}
use Rattle.farm_live.specs.declared.slot.View.{View}
use Rattle.farm_live.specs.Book.{BookState, no_book, record_of, of_caller}
use Rattle.trau_num.specs.Weights.{weigh}
use Rattle.farm_live.specs.Slot.{bit, is_at, times, all_callers, AllSeen, own_posts, FitsBook, IsRecord, IsSlot, founder, rest_view, first_view, both_of, spent}
use Rattle.trau_num.proofs.Weights.{weigh-append, weigh_set}
use Rattle.farm_live.proofs.Weights.{both-le, once, has, held, posts_made, all_callers_are}
use Rattle.farm_live.proofs.Records.{seen_append, own-nil, own-less, own_both}
use Rattle.farm_live.proofs.Slots.{fits_set}

-- ---- making, splitting and joining

-- the first view fits the book that isn't there yet
founder_fits : FitsBook no_book founder
unfolding record_of
founder_fits = record {
  held = λ _. refl;
  seen = tt;
  made = λ c. sym (own-nil (times c all_callers));
  is_of = λ c _. refl;
  few = omega arith;
  rest = λ none. absurd (let e : weigh (λ _. 1) all_callers ≡ 0 = ap (weigh (λ _. 1)) none in let count = all_callers_are in omega arith);
}

begins_at : (port : ℕ) (v : View) → get_elem? (founder ∷ []) port ≡ some v → FitsBook no_book v
begins_at zero v e = let s : founder ≡ v = cc in subst (FitsBook no_book) s founder_fits
begins_at (suc zero) v e = absurd (some-ne-none v (sym e))
begins_at (suc (suc j)) v e = absurd (some-ne-none v (sym e))

no_record : IsRecord (record_of no_book)
unfolding record_of
no_record = record { numbered = λ c. tt; known = λ c _. refl }

no_posts : length (record_of no_book) ≡ 0
unfolding record_of
no_posts = refl

-- a slot without a book keeps the rule
pub begins : IsSlot [] (founder ∷ [])
begins = (no_book, refl, tt, no_record, λ h. omega arith, begins_at, no_posts)

-- the first number and the others weigh as much as all
cut_in_two : (h : ℕ → ℕ) (xs : List ℕ) → weigh h (take 1 xs) + weigh h (drop 1 xs) ≡ weigh h xs
cut_in_two h [] = refl
cut_in_two h (x ∷ xs) = omega arith

-- a view with some of the callers of one that posted nothing fits the book
part_fits : (now : BookState) (v w : View) → v.made ≡ [] → w.made ≡ [] → ((c : ℕ) → times c w.callers ≤ times c v.callers) → (w.holds ≡ true → w.taken ≡ now) →
    w.seen ≡ v.seen → w.is_of ≡ v.is_of → w.holds ≡ false → FitsBook now v → FitsBook now w
part_fits now v w none new few held seen is_of free f = record {
  held = held;
  seen = subst (AllSeen now) (sym seen) f.seen;
  made = λ c. ap (of_caller c) new ∙ sym (own-less (times c w.callers) (times c v.callers) (of_caller c (record_of now)) (few c) (sym (f.made c)
      ∙ ap (of_caller c) none));
  is_of = λ c has_it. is_of ∙ f.is_of c (omega (arith, few c));
  few = let e : length w.made ≡ 0 = ap length new in omega arith;
  rest = λ _. free;
}

-- the first number goes to a view of its own
pub forks : (port : ℕ) (v : View) → v.made ≡ [] → v.holds ≡ false → Forks IsSlot port v (rest_view v) (first_view v)
forks port v none free items views kept at =
    let one : View = rest_view v in
    let rest : View = first_view v in
    let vs = set views port one in
    let f = kept.5 port v at in
    let first : FitsBook kept.0 one = part_fits kept.0 v one none none (λ c. omega (arith, cut_in_two (is_at c) v.callers)) f.held refl refl free f in
    let last : FitsBook kept.0 rest = part_fits kept.0 v rest none refl (λ c. omega (arith, cut_in_two (is_at c) v.callers)) (λ p. absurd (true≢false (sym p)))
    refl refl refl f in
    let all : (j : ℕ) (u : View) → get_elem? vs j ≡ some u → FitsBook kept.0 u = fits_set kept.0 views port one first (λ j u _ e. kept.5 j u e) in (
      kept.0,
      omega (arith, kept.1, weigh_set held views port v one at, weigh-append held vs (rest ∷ [])),
      kept.2,
      kept.3,
      λ h. omega (arith, kept.4 h, weigh_set (has h) views port v one at, weigh-append (has h) vs (rest ∷ []), cut_in_two h v.callers),
      λ j u e. ⊎_elim (λ (x : get_elem? vs j ≡ some u). all j u x) (λ (is : rest ≡ u). subst (FitsBook kept.0) is last) (at_snoc vs rest u j e),
      omega (arith, kept.6, weigh_set posts_made views port v one at, weigh-append posts_made vs (rest ∷ [])),
    )

-- a spent view fits each book
spent_fits : (now : BookState) → FitsBook now spent
spent_fits now =
    record {
      held = λ p. absurd (true≢false (sym p));
      seen = tt;
      made = λ c. refl;
      is_of = λ c has_it. absurd (omega arith);
      few = omega arith;
      rest = λ _. refl;
    }

front_of_none : (xs ys : List ℕ) → xs ++ ys ≡ [] → xs ≡ []
front_of_none [] ys e = refl
front_of_none (x ∷ xs) ys e = absurd (let long : length (x ∷ (xs ++ ys)) ≡ 0 = ap length e in omega arith)

-- two views that are joined are of the same call
joined_call : (now : BookState) (v w : View) → v.is_of ≡ w.is_of → FitsBook now v → FitsBook now w → (c n : ℕ) → n ≡ times c v.callers →
    0 < times c (v.callers ++ w.callers) → v.is_of ≡ now.is_of
joined_call now v w is_of f g c zero e has_it = is_of ∙ g.is_of c (omega (arith, weigh-append (is_at c) v.callers w.callers))
joined_call now v w is_of f g c (suc n) e has_it = f.is_of c (omega arith)

-- the view of both fits the book
joined_fits : (now : BookState) (v w : View) → v.is_of ≡ w.is_of → ((c : ℕ) → times c v.callers + times c w.callers ≤ 1) → FitsBook now v → FitsBook now w →
    FitsBook now (both_of v w)
joined_fits now v w is_of few f g = record {
  held = f.held;
  seen = seen_append now v.seen w.seen f.seen g.seen;
  made = λ c. filter-append (λ (p : Post). p.caller == c) v.made w.made
      ∙ own_both (times c v.callers) (times c w.callers) (of_caller c v.made) (of_caller c w.made) (of_caller c (record_of now)) (few c) (f.made c) (g.made c)
      ∙ ap (λ n. own_posts n (of_caller c (record_of now))) (sym (weigh-append (is_at c) v.callers w.callers));
  is_of = λ c has_it. joined_call now v w is_of f g c (times c v.callers) refl has_it;
  few =
      let one = f.few in
      let two = g.few in
      let posts = length-append v.made w.made in
      let callers = weigh-append (λ _. 1) v.callers w.callers in
      omega arith;
  rest = λ none. f.rest (front_of_none v.callers w.callers none);
}

-- one view takes in another
pub merges : (port other : ℕ) (v w : View) → w.holds ≡ false → v.is_of ≡ w.is_of → Merges IsSlot port v other w (both_of v w) spent
merges port other v w free is_of items views kept at ne there =
    let both : View = both_of v w in
    let vs = set views port both in
    let was : get_elem? views other ≡ some w = ⊎_elim (λ (x : (other ≡ port) × (both ≡ w)). absurd (ne x.0))
    (λ (x : (other ≢ port) × (get_elem? views other ≡ some w)). x.1) (at_set views port other both w there) in
    let none : bit w.holds ≡ 0 = ap bit free in
    let few : (c : ℕ) → times c v.callers + times c w.callers ≤ 1 = λ c. omega (
      arith,
      once c,
      kept.4 (is_at c),
      both-le (has (is_at c)) views port other v w ne
          at was,
    ) in
    let mine : FitsBook kept.0 both = joined_fits kept.0 v w is_of few (kept.5 port v at) (kept.5 other w was) in
    let once_set : (j : ℕ) (u : View) → get_elem? vs j ≡ some u → FitsBook kept.0 u = fits_set kept.0 views port both mine (λ j u _ e. kept.5 j u e) in (
      kept.0,
      omega (arith, kept.1, weigh_set held views port v both at, weigh_set held vs other w spent there),
      kept.2,
      kept.3,
      λ h. omega (arith, kept.4 h, weigh_set (has h) views port v both at, weigh_set (has h) vs other w spent there, weigh-append h v.callers w.callers),
      fits_set kept.0 vs other spent (spent_fits kept.0) (λ j u _ e. once_set j u e),
      omega (arith, kept.6, weigh_set posts_made views port v both at, weigh_set posts_made vs other w spent there, length-append v.made w.made),
    )
