-- The lines and the settings of the first periods of a call as a whole.
use Rattle.std.proofs.Common.{◌≡◌, refl, sym, ap, ◌∙◌, ℕ, ◌+◌, ◌*◌, ◌≤◌, zero, suc, List, [], ◌∷◌, ◌++◌, length, take, drop, pos, arith}
use Rattle.std.proofs.lemmas.List.{take_more, take-take, drop-take, take-append-drop}
use Rattle.trau_orders.specs.declared.order.DtxMode.TheVariants.{Uplink}
use Rattle.call_leg.specs.Periods.{pcm_of}
use Rattle.call_spec.specs.Call.{Call, periods, setting_at}
use Rattle.call_spec.specs.History.{up_in_history, settings_of}
use Rattle.call_spec.specs.Whole.{first_periods}

-- a front and the next part
take-more : (n m : ℕ) (xs : List ℕ) → take n xs ++ take m (drop n xs) ≡ take (n + m) xs
take-more n m xs =
    ap (λ z. z ++ take m (drop n xs)) (sym (take-take n (n + m) xs (omega arith))) ∙
    ap (λ z. take n (take (n + m) xs) ++ z) (sym (drop-take n m xs)) ∙ take-append-drop n (take (n + m) xs)

-- their Up line is a front
pub ups-first : (call : Call) (k : ℕ) → up_in_history (first_periods call k) ≡ take (40 * k) call.up
ups-first call zero = refl
ups-first call (suc k) =
    let e : 40 * k + 40 ≡ 40 * suc k = omega arith in
    ap (λ z. z ++ take 40 (drop (40 * k) call.up)) (ups-first call k) ∙ take-more (40 * k) 40 call.up ∙ ap (λ n. take n call.up) e

-- so is their Pcm line
pub pcms-first : (call : Call) (k : ℕ) → pcm_of (first_periods call k) ≡ take (160 * k) call.pcm
pcms-first call zero = refl
pcms-first call (suc k) =
    let e : 160 * k + 160 ≡ 160 * suc k = omega arith in
    ap (λ z. z ++ take 160 (drop (160 * k) call.pcm)) (pcms-first call k) ∙ take-more (160 * k) 160 call.pcm ∙ ap (λ n. take n call.pcm) e

-- and so are their settings
pub settings-first : (call : Call) (k : ℕ) → k ≤ periods call → settings_of (first_periods call k) ≡ take k call.settings
settings-first call zero l = refl
settings-first call (suc k) l =
    let e : k + 1 ≡ suc k = omega arith in
    ap (λ z. z ++ setting_at call k ∷ []) (settings-first call k (omega arith)) ∙
    sym (take_more call.settings k (record { level = pos 256; mode = Uplink }) (omega arith)) ∙ ap (λ n. take n call.settings) e

-- they are so many
pub length-first : (call : Call) (k : ℕ) → length (first_periods call k) ≡ k
length-first call zero = refl
length-first call (suc k) = ap suc (length-first call k)
