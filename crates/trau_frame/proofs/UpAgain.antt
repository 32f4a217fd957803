-- For crates above: the bits of an uplink frame are in sync (`synced-up_bits`), and read again as that frame
-- (`says-up_bits`).
use Rattle.std.proofs.Common.{◌≡◌, ℕ, ◌+◌, ◌-◌, ◌*◌, ◌<◌, ◌≤◌, zero, suc, if◌then◌else◌, ◌==◌, Bool, true, false, length, refl, sym, ap, ◌∙◌, arith}
use Rattle.std.proofs.lemmas.List.FromFn.{get_or-map-range_with_len}
use Rattle.trau_frame.specs.declared.frames.Kind.{Kind}
use Rattle.trau_frame.specs.declared.frames.Kind.TheVariants.{Speech, Idle, Other}
use Rattle.trau_frame.specs.declared.frames.Class.{Class}
use Rattle.trau_frame.specs.declared.frames.Class.TheVariants.{Good, Sid, InvalidSid, Unusable}
use Rattle.trau_frame.specs.declared.frames.UpFrame.{UpFrame}
use Rattle.trau_frame.specs.Role.{Control, bit_with}
use Rattle.trau_frame.specs.Frame.{Synced, number_in, data_of}
use Rattle.trau_frame.specs.UpFrame.{kind_by, class_by, class_at, kind_of, class_of, words_in, up_words_of, Says}
use Rattle.trau_frame.specs.UpBits.{up_pattern, bfi_of, sid_code_of, up_control_bit, up_control, bits_saying, up_bits, FitsKind, SameFrame}
use Rattle.trau_frame.proofs.Again.{synced-frame_bits, bit_with-frame_bits, data_of-frame_bits}

pub synced-up_bits : (f : UpFrame) → Synced (up_bits f)
unfolding bits_saying
synced-up_bits f = synced-frame_bits (up_control (up_words_of f)) f.d

-- ---- control bits

-- what is written is read again: control bits, numbers of several bits, kind and class, data
control-again : (f : UpFrame) (c : ℕ) → 1 ≤ c → c ≤ 21 → bit_with (up_bits f) (Control c) ≡ up_control_bit (up_words_of f) c
unfolding bits_saying up_control
control-again f c low high =
    bit_with-frame_bits (up_control (up_words_of f)) f.d (Control c) (low, high) ∙
    get_or-map-range_with_len (up_control_bit (up_words_of f)) 1 21 (c - 1) c 0 (omega arith) (omega arith)

-- the number in n bits from `first` on, the first of them the highest
number_by : (ℕ → ℕ) → ℕ → ℕ → ℕ
number_by bit first zero = 0
number_by bit first (suc n) = 2 * number_by bit first n + bit (first + n)

number_of-up_bits : (f : UpFrame) (first n : ℕ) → 1 ≤ first → first + n ≤ 22 →
    number_in (up_bits f) first n ≡ number_by (up_control_bit (up_words_of f)) first n
unfolding number_in number_by
number_of-up_bits f first zero l h = refl
number_of-up_bits f first (suc n) l h =
    let e : number_in (up_bits f) first n ≡ number_by (up_control_bit (up_words_of f)) first n = number_of-up_bits f first n l (omega (arith, h)) in
    let b : bit_with (up_bits f) (Control (first + n)) ≡ up_control_bit (up_words_of f) (first + n) =
    control-again f (first + n) (omega arith) (omega (arith, h)) in
    cc

up_pattern-below : (kind : Kind) → up_pattern kind < 32
up_pattern-below Speech = omega arith
up_pattern-below Idle = omega arith
up_pattern-below Other = omega arith

sid_of-below : (class : Class) → sid_code_of class < 4
sid_of-below Good = omega arith
sid_of-below Sid = omega arith
sid_of-below InvalidSid = omega arith
sid_of-below Unusable = omega arith

pattern-again : (f : UpFrame) → number_in (up_bits f) 1 5 ≡ up_pattern f.kind
unfolding number_by
pattern-again f =
    let below = up_pattern-below f.kind in
    number_of-up_bits f 1 5 (omega arith) (omega arith) ∙ omega arith

align-again : (f : UpFrame) → number_in (up_bits f) 6 6 ≡ f.align
unfolding number_by
align-again f =
    let below : f.align ≤ 63 = f.six_bits in
    number_of-up_bits f 6 6 (omega arith) (omega arith) ∙ omega arith

sid-again : (f : UpFrame) → number_in (up_bits f) 13 2 ≡ sid_code_of f.class
unfolding number_by
sid-again f =
    let below = sid_of-below f.class in
    number_of-up_bits f 13 2 (omega arith) (omega arith) ∙ omega arith

-- ---- kind, class and flags

kind-again : (kind : Kind) → kind_by (up_pattern kind) ≡ kind
kind-again Speech = refl
kind-again Idle = refl
kind-again Other = refl

speech-again : (class : Class) → class_by (bfi_of class) (sid_code_of class) ≡ class
speech-again Good = refl
speech-again Sid = refl
speech-again InvalidSid = refl
speech-again Unusable = refl

class-again : (kind : Kind) (class : Class) → FitsKind kind class → class_at kind (bfi_of class) (sid_code_of class) ≡ class
class-again Speech class h = speech-again class
class-again Idle class h = sym h
class-again Other class h = sym h

flag-again : (flag : Bool) → ((if flag then 1 else 0) == 1) ≡ flag
flag-again true = refl
flag-again false = refl

-- ---- all of it

data-again : (f : UpFrame) → length f.d ≡ 260 → data_of (up_bits f) ≡ f.d
unfolding bits_saying
data-again f count = data_of-frame_bits (up_control (up_words_of f)) f.d count

-- so the bits of a frame say the frame
pub says-up_bits : (f : UpFrame) → length f.d ≡ 260 → FitsKind f.kind f.class → Says (up_bits f) f
unfolding words_in
says-up_bits f count fits =
    let kind : kind_of (up_bits f) ≡ f.kind = ap kind_by (pattern-again f) ∙ kind-again f.kind in
    let bfi : bit_with (up_bits f) (Control 12) ≡ bfi_of f.class = control-again f 12 (omega arith) (omega arith) in
    let sid : number_in (up_bits f) 13 2 ≡ sid_code_of f.class = sid-again f in
    let class : class_of (up_bits f) ≡ f.class = rw (kind, bfi, sid) (class-again f.kind f.class fits) in
    let taf = ap (λ b. b == 1) (control-again f 15 (omega arith) (omega arith)) ∙ flag-again f.taf in
    let dtxd = ap (λ b. b == 1) (control-again f 17 (omega arith) (omega arith)) ∙ flag-again f.dtxd in
    let align = align-again f in
    let d = data-again f count in
    cc

-- and no other
pub same-up_bits : (f g : UpFrame) → length f.d ≡ 260 → FitsKind f.kind f.class → Says (up_bits f) g → SameFrame f g
same-up_bits f g count fits says = says-up_bits f count fits ∙ sym says
