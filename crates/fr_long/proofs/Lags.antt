-- A block has one lag.
use Rattle.std.proofs.Common.{◌≡◌, ℕ, ℤ, ◌<◌, ◌≤◌, ◌<ℤ◌, ◌≤ℤ◌, pos, true, false, arith, inl, inr, ⊎_elim, sym, ap, subst, refl, ◌∙◌}
use Rattle.std.specs.Option.{unwrap_or}
use Rattle.std.proofs.lemmas.Int.{ints, by_lt_z}
use Rattle.std.proofs.lemmas.Bool.{and_from, and_left, and_right}
use Rattle.trau_num.proofs.Greatest.{IsLeastGreatest, has_least_greatest, first_found, none_found, none_above, some_above, less, not_less}
use Rattle.fr_long.specs.Lag.{lags, is_best, lag_of, IsLag}

-- the least lag with the greatest correlation passes the test of the search, if that is positive
passes : (f : ℕ → ℤ) (m : ℕ) → IsLeastGreatest f 40 81 m → pos 0 <ℤ f m → is_best f m ≡ true
unfolding is_best lags
passes f m h l = and_from _ _ (less (pos 0) (f m) l) (none_above f 40 81 m h)

-- and no lag before it does
fails : (f : ℕ → ℤ) (m k : ℕ) → IsLeastGreatest f 40 81 m → 40 ≤ k → k < m → is_best f k ≡ false
unfolding is_best lags
fails f m k h b c = and_right _ _ (some_above f 40 81 m k h b c)

-- nor one whose correlation isn't positive
not_positive : (f : ℕ → ℤ) (k : ℕ) → f k ≤ℤ pos 0 → is_best f k ≡ false
unfolding is_best
not_positive f k h = and_left _ _ (not_less (pos 0) (f k) h)

-- where a lag is the least of those with the greatest correlation, and that is positive
best_found : (f : ℕ → ℤ) (m : ℕ) → IsLeastGreatest f 40 81 m → pos 0 <ℤ f m → m ≡ lag_of f
unfolding lag_of lags
best_found f m h l =
    sym (ap (λ o. unwrap_or o 40) (first_found (is_best f) 40 81 m h.at_least h.below (passes f m h l) (λ k b c. fails f m k h b c)))

none_positive : (f : ℕ → ℤ) → ((k : ℕ) → 40 ≤ k → k ≤ 120 → f k ≤ℤ pos 0) → 40 ≡ lag_of f
unfolding lag_of lags
none_positive f none = sym (ap (λ o. unwrap_or o 40) (none_found (is_best f) 40 81 (λ k b c. not_positive f k (none k b (omega arith)))))

-- a lag with the property is the one that the search gives
pub lag_is : (f : ℕ → ℤ) (nc : ℕ) → IsLag f nc → nc ≡ lag_of f
lag_is f nc h =
    let low = h.at_least in
    let high = h.at_most in
    ⊎_elim
    (λ p.
    let first : IsLeastGreatest f 40 81 nc = record { at_least = low; below = omega arith; greatest = λ k b c. p.0.greatest k b (omega arith); least = p.1 } in
    best_found f nc first p.0.positive)
    (λ p. p.0 ∙ none_positive f p.1)
    h.chosen

at_most_both : (a b c : ℤ) → a ≤ℤ b → b ≤ℤ c → a ≤ℤ c
at_most_both a b c l m = omega (arith, ints)

-- some lag has the property
some_lag : (f : ℕ → ℤ) → (nc : ℕ) × IsLag f nc
some_lag f =
    let first = has_least_greatest f 40 80 in
    let m = first.0 in
    let h = first.1 in
    by_lt_z (pos 0) (f m)
    (λ l. (
      m,
      record {
        at_least = h.at_least;
        at_most = omega (arith, h.below);
        chosen = inl (record { positive = l; greatest = λ k b c. h.greatest k b (omega arith) }, h.least);
      },
    ))
    (λ l. (
      40,
      record {
        at_least = omega arith;
        at_most = omega arith;
        chosen = inr (refl, λ k b c. at_most_both (f k) (f m) (pos 0) (h.greatest k b (omega arith)) l);
      },
    ))

-- what the search gives has the property
pub has_lag : (f : ℕ → ℤ) → IsLag f (lag_of f)
has_lag f = let some = some_lag f in subst (IsLag f) (lag_is f some.0 some.1) some.1
