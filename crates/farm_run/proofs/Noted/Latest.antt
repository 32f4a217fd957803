-- A call's latest bridge, in lists of bridges.
use Rattle.std.proofs.Common.{◌≡◌, sym, ap, ◌∙◌, ℕ, ◌<◌, true, false, Some, List, [], ◌∷◌, ◌++◌, length, get_or, inl, inr, ◌⊎◌, arith}
use Rattle.std.proofs.Math.Seq.{get_or-append_seam}
use Rattle.std.proofs.lemmas.Bool.{cases_lt}
use Rattle.std.proofs.lemmas.List.{length-append, get_or_append_left}
use Rattle.switchboard.specs.declared.table.Bridge.{Bridge}
use Rattle.switchboard.specs.Bridges.{joins, no_bridge}
use Rattle.switchboard.specs.Stands.{IsLatest}

-- a place of a list with one more element
last_or : {X : Type 0} (xs : List X) (x : X) (k : ℕ) → k < length (xs ++ x ∷ []) → (k < length xs) ⊎ (k ≡ length xs)
last_or xs x k l = elim (cases_lt k (length xs)) [ inl m ↦ inl m | inr m ↦ inr (let e = length-append xs (x ∷ []) in omega arith) ]

-- **The latest bridge of a call that isn't in the new one stays.**
pub latest_push : (xs : List Bridge) (y : Bridge) (c k : ℕ) → joins c y ≡ false →
    IsLatest xs c (Some k) → IsLatest (xs ++ y ∷ []) c (Some k)
latest_push xs y c k f h =
    let below = h.0 in
    (let e = length-append xs (y ∷ []) in omega arith, ap (joins c) (get_or_append_left xs (y ∷ []) no_bridge k below) ∙ h.1, λ i m l. at i m (last_or xs y i l))
  where
    at : (i : ℕ) → k < i → (i < length xs) ⊎ (i ≡ length xs) → joins c (get_or (xs ++ y ∷ []) i no_bridge) ≡ false
    at i m (inl l) = ap (joins c) (get_or_append_left xs (y ∷ []) no_bridge i l) ∙ h.2 i m l
    at i m (inr q) = ap (λ (i : ℕ). joins c (get_or (xs ++ y ∷ []) i no_bridge)) q ∙ ap (joins c) (get_or-append_seam xs y [] no_bridge) ∙ f

-- **The latest bridge of a call that isn't in the new one was its latest before.**
pub latest_pop : (xs : List Bridge) (y : Bridge) (c k : ℕ) → joins c y ≡ false → IsLatest (xs ++ y ∷ []) c (Some k) → IsLatest xs c (Some k)
latest_pop xs y c k f h = elim (last_or xs y k h.0) [
  | inl l ↦ (
    l,
    sym (ap (joins c) (get_or_append_left xs (y ∷ []) no_bridge k l)) ∙ h.1,
    λ i m j. sym (ap (joins c) (get_or_append_left xs (y ∷ []) no_bridge i j)) ∙ h.2 i m (let e = length-append xs (y ∷ []) in omega arith),
  )
  | inr q ↦ absurd (differ (sym h.1 ∙ ap (λ (i : ℕ). joins c (get_or (xs ++ y ∷ []) i no_bridge)) q ∙ ap (joins c) (get_or-append_seam xs y [] no_bridge) ∙ f))
]
  where
    differ : true ≡ false → ⊥
    differ e = cc

-- **The new bridge is the latest of its calls.**
pub latest_new : (xs : List Bridge) (y : Bridge) (c : ℕ) → joins c y ≡ true → IsLatest (xs ++ y ∷ []) c (Some (length xs))
latest_new xs y c f = (
  let e = length-append xs (y ∷ []) in omega arith,
  ap (joins c) (get_or-append_seam xs y [] no_bridge) ∙ f,
  λ i m l. absurd (let e = length-append xs (y ∷ []) in omega arith),
)
