-- A downlink frame is read from its first 316 bits.
use Rattle.std.proofs.Common.{◌≡◌, ℕ, ◌+◌, ◌-◌, ◌*◌, ◌≤◌, ◌<◌, Bool, true, false, Some, List, length, get_or, refl, sym, ap, ◌∙◌, subst, arith}
use Rattle.std.specs.Prelude.{◌==◌}
use Rattle.std.proofs.lemmas.Grind.{same_number_lists}
use Rattle.std.proofs.lemmas.List.FromFn.{length-map-range_with_len, get_or-map-range_with_len}
use Rattle.trau_frame.specs.declared.frames.DownFrame.{DownFrame}
use Rattle.trau_frame.specs.declared.frames.DownFrame.TheVariants.{Idle, Speech}
use Rattle.trau_frame.specs.Role.{Control, Data, Time, role_of, place_of_role, bit_with}
use Rattle.trau_frame.specs.Frame.{number_in, data_of, bit_for, frame_bits}
use Rattle.trau_frame.specs.DownFrame.{down_control, down_data, down_bits}
use Rattle.trau_frame.proofs.Places.{role_of-place_of, synced_zeros, synced_ones}
use Rattle.trau_frame.proofs.Again.{get_or-frame_bits, data_of-frame_bits, length-down_bits, synced-down_bits}
use Rattle.ccu_end.specs.Read.{frame_by, down_frame_in, HasLength, Alike}

-- 320 bits with the sync bits and ones for the four T bits
pub record IsFrame (bits : List ℕ) : Type 0 where
  pub count : length bits ≡ 320
  pub zeros : (i : ℕ) → i < 16 → get_or bits i 0 ≡ 0
  pub ones : (row : ℕ) → 1 ≤ row → row < 20 → get_or bits (16 * row) 0 ≡ 1
  pub time : (i : ℕ) → 316 ≤ i → i < 320 → get_or bits i 0 ≡ 1

-- the last four bits are time bits, and are ones
role_of-time : (i : ℕ) → 316 ≤ i → i < 320 → role_of i ≡ Time (i - 315)
unfolding place_of_role
role_of-time i a b =
    let e : i - 315 + 315 ≡ i = omega arith in
    subst (λ k. role_of k ≡ Time (i - 315)) e (role_of-place_of (Time (i - 315)) (omega arith, omega arith))

time_bits : (f : DownFrame) (i : ℕ) → 316 ≤ i → i < 320 → get_or (down_bits f) i 0 ≡ 1
unfolding down_bits
time_bits f i a b = get_or-frame_bits (down_control f) (down_data f) i 0 b ∙ ap (bit_for (down_control f) (down_data f)) (role_of-time i a b)

-- written bits are a frame
pub down_bits-frame : (f : DownFrame) → IsFrame (down_bits f)
down_bits-frame f = record {
  count = length-down_bits f;
  zeros = synced_zeros (down_bits f) (synced-down_bits f);
  ones = synced_ones (down_bits f) (synced-down_bits f);
  time = time_bits f;
}

-- ---- the same first 316 bits say the same

-- what a frame says goes by its first 316 bits: its pattern
number-alike : (a b : List ℕ) → Alike a b → number_in a 1 5 ≡ number_in b 1 5
unfolding number_in place_of_role
number-alike a b h =
    let c1 = h 17 (omega arith) in let c2 = h 18 (omega arith) in let c3 = h 19 (omega arith) in
    let c4 = h 20 (omega arith) in let c5 = h 21 (omega arith) in
    omega arith

-- its data bits
data_place : (n : ℕ) → 1 ≤ n → n ≤ 260 → place_of_role (Data n) < 316
unfolding place_of_role
data_place n a b = grind arith

data-alike : (a b : List ℕ) → Alike a b → data_of a ≡ data_of b
unfolding data_of
data-alike a b h =
    let la = length-map-range_with_len (λ n. bit_with a (Data n)) 1 260 in
    let lb = length-map-range_with_len (λ n. bit_with b (Data n)) 1 260 in
    same_number_lists _ _ (la ∙ sym lb) (λ k below.
    let inside : k < 260 = omega arith in
    get_or-map-range_with_len (λ n. bit_with a (Data n)) 1 260 k (k + 1) 0 inside (omega arith) ∙
    h (place_of_role (Data (k + 1))) (data_place (k + 1) (omega arith) (omega arith)) ∙
    sym (get_or-map-range_with_len (λ n. bit_with b (Data n)) 1 260 k (k + 1) 0 inside (omega arith)))

-- its SP
sp-alike : (a b : List ℕ) → Alike a b → bit_with a (Control 16) ≡ bit_with b (Control 16)
unfolding place_of_role
sp-alike a b h = h 310 (omega arith)

-- and so all of it
pub read-alike : (a b : List ℕ) → Alike a b → down_frame_in a ≡ down_frame_in b
read-alike a b h =
    let n = number-alike a b h in
    let d = data-alike a b h in
    let s = sp-alike a b h in
    rw (n, d, s) refl

-- ---- what was written is read

-- the patterns of written frames
pattern-idle : number_in (down_bits Idle) 1 5 ≡ 14
unfolding number_in place_of_role down_bits frame_bits down_control role_of
pattern-idle = refl

pattern-speech : (d : List ℕ) (sp : Bool) → number_in (down_bits (Speech d sp)) 1 5 ≡ 28
unfolding number_in place_of_role down_bits frame_bits down_control role_of
pattern-speech d sp = refl

-- their SP and data bits
sp_read : (d : List ℕ) (sp : Bool) → (bit_with (down_bits (Speech d sp)) (Control 16) == 1) ≡ sp
unfolding place_of_role down_bits frame_bits down_control role_of
sp_read d true = refl
sp_read d false = refl

data_read : (d : List ℕ) (sp : Bool) → length d ≡ 260 → data_of (down_bits (Speech d sp)) ≡ d
unfolding down_bits
data_read d sp l = data_of-frame_bits (down_control (Speech d sp)) d l

-- so what was written is read
pub written_read : (f : DownFrame) → HasLength f → down_frame_in (down_bits f) ≡ Some f
written_read Idle h = ap (λ n. frame_by n (down_bits Idle)) pattern-idle
written_read (Speech d sp) h =
    ap (λ n. frame_by n (down_bits (Speech d sp))) (pattern-speech d sp) ∙
    ap (λ e. Some (Speech e (bit_with (down_bits (Speech d sp)) (Control 16) == 1))) (data_read d sp h) ∙
    ap (λ s. Some (Speech d s)) (sp_read d sp)
