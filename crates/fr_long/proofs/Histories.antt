-- For crates above: long-term synthesis gives, block by block, the residual of all blocks so far
-- (`synthesised-Stands`).
-- The memory of long-term synthesis goes from block to block as all blocks from home ask.
use Rattle.std.proofs.Common.{◌≡◌, ℕ, ℤ, ◌+◌, ◌-◌, ◌≤◌, pos, if◌then◌else◌, List, [], ◌∷◌, ◌++◌, length, drop, map, get_or, refl, sym, ap, ◌∙◌, arith}
use Rattle.std.specs.List.{range_with_len}
use Rattle.std.proofs.lemmas.List.{length-append, length-drop, length-replicate, drop-drop, drop-append-le, get_or-drop}
use Rattle.std.proofs.lemmas.List.FromFn.{length-map-range_with_len}
use Rattle.std.proofs.lemmas.Grind.{common_steps}
use Rattle.trau_num.specs.Num.{add_of, mult_r_of}
use Rattle.fr_long.specs.Gain.{gain_of}
use Rattle.fr_long.specs.Synthesis.{LtpBlock, is_lag, lag_in_force, sample_before, residual_after, residuals_of, residual_of}
use Rattle.fr_long.specs.Memory.{LtpMemory}
use Rattle.fr_long.specs.Step.{synthesised}
use Rattle.fr_long.specs.Stands.{last_120, Stands}

-- a lag in force lies within the last 120
pub lag_in_force-le : (past : List LtpBlock) → lag_in_force past ≤ 120
unfolding lag_in_force
lag_in_force-le [] = omega arith
lag_in_force-le (b ∷ past) = let rest = lag_in_force-le past in grind (arith, common_steps)

pub length-residual_after : (earlier : List ℤ) (lag bc : ℕ) (erp : List ℤ) → length (residual_after earlier lag bc erp) ≡ 40
unfolding residual_after
length-residual_after earlier lag bc erp =
    length-map-range_with_len {X = ℤ} (λ k. add_of (get_or erp k (pos 0)) (mult_r_of (gain_of bc) (sample_before earlier lag k))) 0 40

pub length-residuals_of : (past : List LtpBlock) → 120 ≤ length (residuals_of past)
unfolding residuals_of
length-residuals_of [] = omega (arith, length-replicate 120 (pos 0))
length-residuals_of (b ∷ past) =
    let earlier = residuals_of past in
    omega (arith, length-residuals_of past, length-append earlier (residual_after earlier (lag_in_force (b ∷ past)) b.bc b.erp))

length-last_120 : (xs : List ℤ) → 120 ≤ length xs → length (last_120 xs) ≡ 120
length-last_120 xs h = omega (arith, length-drop (length xs - 120) xs)

-- no lag looks back further than the last 120
pub sample_before-last_120 : (xs : List ℤ) (lag k : ℕ) → 120 ≤ length xs → lag ≤ 120 → sample_before (last_120 xs) lag k ≡ sample_before xs lag k
sample_before-last_120 xs lag k l h =
    let count = length-last_120 xs l in
    let place : length xs - 120 + (120 + k - lag) ≡ length xs + k - lag = omega arith in
    rw count (get_or-drop (length xs - 120) xs (120 + k - lag) (pos 0) ∙ ap (λ i. get_or xs i (pos 0)) place)

-- a block looks back over the last 120 residuals alone
residual_after-last_120 : (xs : List ℤ) (lag bc : ℕ) (erp : List ℤ) → 120 ≤ length xs → lag ≤ 120 →
    residual_after (last_120 xs) lag bc erp ≡ residual_after xs lag bc erp
unfolding residual_after
residual_after-last_120 xs lag bc erp l h =
    λ i. map (λ k. add_of (get_or erp k (pos 0)) (mult_r_of (gain_of bc) (sample_before-last_120 xs lag k l h i))) (range_with_len 0 40)

-- the last 120 after 40 more
pub last_120-append : (xs ys : List ℤ) → 120 ≤ length xs → length ys ≡ 40 → last_120 (xs ++ ys) ≡ drop 40 (last_120 xs) ++ ys
last_120-append xs ys l e =
    let start : length (xs ++ ys) - 120 ≡ length xs - 120 + 40 = omega (arith, length-append xs ys) in
    let within : length xs - 120 + 40 ≤ length xs = omega arith in
    ap (λ n. drop n (xs ++ ys)) start ∙ drop-append-le (length xs - 120 + 40) xs ys within ∙
    ap (λ zs. zs ++ ys) (sym (drop-drop 40 (length xs - 120) xs))

-- one block more
pub one_more : (past : List LtpBlock) (b : LtpBlock) (memory : LtpMemory) (lag : ℕ) (residual : List ℤ) → Stands past memory →
    lag ≡ (if is_lag b.nc then b.nc else memory.lag) → residual ≡ residual_after memory.residuals lag b.bc b.erp →
    Stands (b ∷ past) (record { lag = lag; residuals = drop 40 memory.residuals ++ residual }) × (residual ≡ residual_of b past)
unfolding lag_in_force residuals_of residual_of
one_more past b memory lag residual h l r =
    let now : lag ≡ lag_in_force (b ∷ past) = l ∙ ap (λ n. if is_lag b.nc then b.nc else n) h.lag in
    let earlier = residuals_of past in
    let e : residual ≡ residual_of b past =
    r ∙ ap (λ xs. residual_after xs lag b.bc b.erp) h.residuals ∙ ap (λ n. residual_after (last_120 earlier) n b.bc b.erp) now ∙
    residual_after-last_120 earlier (lag_in_force (b ∷ past)) b.bc b.erp (length-residuals_of past) (lag_in_force-le (b ∷ past)) in (
      record {
        lag = now;
        residuals = ap (λ xs. drop 40 xs ++ residual) h.residuals ∙ ap (λ ys. drop 40 (last_120 earlier) ++ ys) e ∙
            sym (last_120-append earlier (residual_of b past) (length-residuals_of past) (length-residual_after earlier (lag_in_force (b ∷ past)) b.bc b.erp));
      },
      e,
    )

-- one block of the function from block to block
pub synthesised-Stands : (past : List LtpBlock) (b : LtpBlock) (memory : LtpMemory) → Stands past memory →
    Stands (b ∷ past) (synthesised memory b).1 × ((synthesised memory b).0 ≡ residual_of b past)
unfolding synthesised
synthesised-Stands past b memory h = one_more past b memory _ _ h refl refl
