-- Each step keeps the rule of one deque.
use Rattle.std.proofs.Common.{sym, ◌≡◌, ◌≢◌, ℕ, ◌+◌, ◌-◌, ◌<◌, List, [], ◌∷◌, ◌++◌, map, set, refl, ap, subst, ⊎_elim, arith}
use Rattle.std.proofs.lemmas.List.{map-append}
use mathlib.Core.Option.{some}
use lib.ListN.{get_elem?}
use Rattle.crossbeam_deque.specs.Tasks.{Pushes, Takes, Finds, Learns, Forks, Merges}
use Rattle.crossbeam_deque.specs.Steals.{MatchSteal}
use Rattle.crossbeam_deque.specs.declared.steal.Steal.{Steal}
use Rattle.crossbeam_deque.specs.declared.steal.Steal.TheVariants.{Empty, Success, Retry}
use Rattle.crossbeam_deque.proofs.Lists.{at_set, at_snoc}
use Rattle.pool_run.specs.declared.deque.View.{View}
use Rattle.pool_run.specs.declared.deque.Task.{Task}
use Rattle.trau_num.specs.Weights.{weigh}
use Rattle.pool_run.specs.Deque.{SameEntries, IsCovered, knows, entry_of, after_push, after_take, SpentAreEmpty, IsKept}
use Rattle.trau_num.proofs.Weights.{weigh-append, weigh_set}
use Rattle.pool_run.proofs.Weights.{alone}

module _ {W : Type 0} (finish : W → W) where
  spent_set : (views : List (View W)) (port : ℕ) (w : View W) → (w.parts ≡ 0 → (w.pushed ≡ []) × (w.obtained ≡ [])) → SpentAreEmpty views →
      SpentAreEmpty (set views port w)
  spent_set views port w mine old j u e =
      ⊎_elim (λ (x : (j ≡ port) × (w ≡ u)). subst (λ (y : View W). y.parts ≡ 0 → (y.pushed ≡ []) × (y.obtained ≡ [])) x.1 mine)
      (λ (x : (j ≢ port) × (get_elem? views j ≡ some u)). old j u x.1) (at_set views port j w u e)

  pub pushes : (port : ℕ) (v : View W) (xs : List (Task W)) → 0 < v.parts → Pushes (IsKept finish) port v xs (λ w. w ≡ after_push finish v xs)
  pushes port v xs some_part items views kept at = let w : View W = after_push finish v xs in (
    w,
    (
      (let s = weigh_set (λ (u : View W). u.parts) views port v w at in let k = kept.0 in omega arith),
      (λ h.
          let s = weigh_set (λ (u : View W). weigh h u.pushed) views port v w at in
          let t = weigh_set (λ (u : View W). weigh h u.obtained) views port v w at in
          let k = kept.1 h in
          rw map-append
          (omega (arith, weigh-append h v.pushed (map (entry_of finish) xs), weigh-append h (map (entry_of finish) items) (map (entry_of finish) xs)))),
      spent_set views port w (λ z. absurd (omega arith)) kept.2,
    ),
    refl,
  )

  pub takes : (port : ℕ) (v : View W) → 0 < v.parts → Takes (IsKept finish) port v 1 (λ xs w. w ≡ after_take finish v xs)
  takes port v some_part xs items views _ _ kept at = let w : View W = after_take finish v xs in (
    w,
    (
      (let s = weigh_set (λ (u : View W). u.parts) views port v w at in let k = kept.0 in omega arith),
      (λ h.
          let s = weigh_set (λ (u : View W). weigh h u.pushed) views port v w at in
          let t = weigh_set (λ (u : View W). weigh h u.obtained) views port v w at in
          let k : weigh (λ (u : View W). weigh h u.pushed) views ≡ weigh (λ (u : View W). weigh h u.obtained) views + weigh h
          (map (entry_of finish) xs ++ map (entry_of finish) items) =
          rw map-append at (kept.1 h) in
          omega (arith, weigh-append h v.obtained (map (entry_of finish) xs), weigh-append h (map (entry_of finish) xs) (map (entry_of finish) items))),
      spent_set views port w (λ z. absurd (omega arith)) kept.2,
    ),
    refl,
  )

  -- with all parts a view is the whole account of the deque
  accounts : (items : List (Task W)) (views : List (View W)) (port : ℕ) (v : View W) → IsKept finish items views → get_elem? views port ≡ some v →
      v.parts ≡ 1024 → (h : ℕ × W → ℕ) → weigh h v.pushed ≡ weigh h v.obtained + weigh h (map (entry_of finish) items)
  accounts items views port v kept at all h =
      let whole : weigh (λ (u : View W). u.parts) views ≡ v.parts = omega (arith, kept.0) in
      let a = alone (λ (u : View W). u.parts) (λ (u : View W). weigh h u.pushed) views port v at (λ j u e z. ap (weigh h) (kept.2 j u e z).0) whole in
      let b = alone (λ (u : View W). u.parts) (λ (u : View W). weigh h u.obtained) views port v at (λ j u e z. ap (weigh h) (kept.2 j u e z).1) whole in
      omega (arith, kept.1 h)

  covered_after : (port : ℕ) (v : View W) (xs items : List (Task W)) (views : List (View W)) → IsKept finish (xs ++ items) views →
      get_elem? views port ≡ some v → v.parts ≡ 1024 → IsCovered (after_take finish v xs)
  covered_after port v xs items views kept at all h = omega (
    arith,
    accounts (xs ++ items) views port v kept at all h,
    ap (weigh h) (map-append (entry_of finish) xs items),
    weigh-append h v.obtained (map (entry_of finish) xs),
    weigh-append h (map (entry_of finish) xs) (map (entry_of finish) items),
  )

  pub takes_left : (port : ℕ) (v : View W) → 0 < v.parts →
      Takes (IsKept finish) port v 1 (λ xs w. (w ≡ after_take finish v xs) × (v.parts ≡ 1024 → IsCovered w))
  takes_left port v some_part xs items views some_items few kept at =
      let taken = takes port v some_part xs items views some_items few kept at in (
        taken.0,
        taken.1,
        (taken.2, λ all. subst IsCovered (sym taken.2) (covered_after port v xs items views kept at all)),
      )

  pub finds : (port : ℕ) (v : View W) → Finds (IsKept finish) port v (v.parts ≡ 1024 → SameEntries v.pushed v.obtained)
  finds port v views kept at all h = omega (arith, accounts [] views port v kept at all h)

  pub learns : (port : ℕ) (v : View W) → Learns (IsKept finish) port v (λ _. v.parts ≡ 1024 → IsCovered v)
  learns port v items views kept at all h = omega (arith, accounts items views port v kept at all h)

  pub forks : (port : ℕ) (v : View W) → 1 < v.parts → Forks (IsKept finish) port v (knows (v.parts - 1) v.pushed v.obtained) (knows 1 [] [])
  forks port v two items views kept at =
      let l : View W = knows (v.parts - 1) v.pushed v.obtained in let r : View W = knows 1 [] [] in let vs : List (View W) = set views port l in
      let old = spent_set views port l (λ z. absurd (omega arith)) kept.2 in (
        (let s = weigh_set (λ (u : View W). u.parts) views port v l at in let k = kept.0 in omega (arith, weigh-append (λ (u : View W). u.parts) vs (r ∷ []))),
        (λ h.
            let s = weigh_set (λ (u : View W). weigh h u.pushed) views port v l at in
            let t = weigh_set (λ (u : View W). weigh h u.obtained) views port v l at in
            let k = kept.1 h in
            omega (arith, weigh-append (λ (u : View W). weigh h u.pushed) vs (r ∷ []), weigh-append (λ (u : View W). weigh h u.obtained) vs (r ∷ []))),
        λ j u e z. ⊎_elim (λ x. old j u x z) (λ (is : r ≡ u). absurd (let q : 1 ≡ u.parts = ap (λ (y : View W). y.parts) is in omega arith))
            (at_snoc vs r u j e),
      )

  pub merges : (port : ℕ) (v : View W) (other : ℕ) (w : View W) → 0 < v.parts
      → Merges (IsKept finish) port v other w (knows (v.parts + w.parts) (v.pushed ++ w.pushed) (v.obtained ++ w.obtained)) (knows 0 [] [])
  merges port v other w some_part items views kept at apart at' =
      let both : View W = knows (v.parts + w.parts) (v.pushed ++ w.pushed) (v.obtained ++ w.obtained) in let spent : View W = knows 0 [] [] in
      let vs : List (View W) = set views port both in
      let mid = spent_set views port both (λ z. absurd (omega arith)) kept.2 in (
        (let s = weigh_set (λ (u : View W). u.parts) views port v both at in let t = weigh_set
            (λ (u : View W). u.parts) vs other w spent at' in let k = kept.0 in omega arith),
        (λ h.
            let s = weigh_set (λ (u : View W). weigh h u.pushed) views port v both at in
            let s' = weigh_set (λ (u : View W). weigh h u.pushed) vs other w spent at' in
            let t = weigh_set (λ (u : View W). weigh h u.obtained) views port v both at in
            let t' = weigh_set (λ (u : View W). weigh h u.obtained) vs other w spent at' in
            let k = kept.1 h in
            omega (arith, weigh-append h v.pushed w.pushed, weigh-append h v.obtained w.obtained)),
        spent_set vs other spent (λ z. (refl, refl)) mid,
      )

  -- what a steal does to the view, without what it tells of an empty deque
  pub seen_after : (r : Steal (Task W)) (new old : View W) (Few Moved : Type 0) →
      MatchSteal r ((new ≡ old) × Few) ((new ≡ old) × Moved) (λ t. new ≡ after_take finish old (t ∷ [])) →
      MatchSteal r (new ≡ old) (new ≡ old) (λ t. new ≡ after_take finish old (t ∷ []))
  seen_after Empty new old Few Moved is = is.0
  seen_after (Success t) new old Few Moved is = is
  seen_after Retry new old Few Moved is = is.0
