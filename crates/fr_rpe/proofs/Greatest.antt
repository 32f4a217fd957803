-- The grid of a block is the least of the four with the greatest energy.
use Rattle.std.proofs.Common.{◌≡◌, ℕ, ℤ, ◌<◌, List, true, false, sym, ap, arith}
use Rattle.std.specs.Option.{unwrap_or}
use Rattle.trau_num.proofs.Greatest.{IsLeastGreatest, first_found, none_above, some_above}
use Rattle.fr_rpe.specs.Selection.{grid_energy, grids, is_strongest, grid_of, IsStrongestGrid}

-- the least grid with the greatest energy passes the test of the search
passes : (x : List ℤ) (m : ℕ) → IsLeastGreatest (grid_energy x) 0 4 m → is_strongest x m ≡ true
unfolding is_strongest grids
passes x m h = none_above (grid_energy x) 0 4 m h

-- and no grid before it does
fails : (x : List ℤ) (m k : ℕ) → IsLeastGreatest (grid_energy x) 0 4 m → k < m → is_strongest x k ≡ false
unfolding is_strongest grids
fails x m k h b = some_above (grid_energy x) 0 4 m k h (omega arith) b

pub grid_is : (x : List ℤ) (m : ℕ) → IsLeastGreatest (grid_energy x) 0 4 m → m ≡ grid_of x
unfolding grid_of grids
grid_is x m h =
    let below = h.below in
    sym (ap (λ o. unwrap_or o 0) (first_found (is_strongest x) 0 4 m (omega arith) (omega arith) (passes x m h) (λ k b c. fails x m k h c)))

pub strongest : (x : List ℤ) (m : ℕ) → IsLeastGreatest (grid_energy x) 0 4 m → IsStrongestGrid x m
strongest x m h =
    let below = h.below in
    record { below_4 = omega arith; greatest = λ n b. h.greatest n (omega arith) (omega arith); least = λ n b. h.least n (omega arith) b }
