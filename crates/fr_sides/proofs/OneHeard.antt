-- For crates above: a kind, TAF and octets are heard in one way only (`one-heard`), and carry one frame (`same-frame`).
use Rattle.std.proofs.Common.{◌≡◌, ℕ, ◌+◌, ◌*◌, ◌/◌, ◌^◌, ◌<◌, Bool, Option, Some, None, option_map, List, All, length, get_or, refl, sym, ap, ◌∙◌, arith}
use Rattle.std.specs.Prelude.{slice_index}
use Rattle.trau_params.specs.declared.params.Params.{Params}
use Rattle.trau_params.specs.Fields.{Fields, fields_of}
use Rattle.trau_params.specs.Shape.{HasShape}
use Rattle.trau_params.specs.Widths.{larc_widths}
use Rattle.gsm_frame.specs.Packed.{magic, packed_from, Carries}
use Rattle.gsm_frame.proofs.OneFrame.{one_frame}
use Rattle.rx_handler.specs.Heard.{Heard}
use Rattle.fr_sides.specs.Octets.{heard_by, CarriesIf, HeardIn}

-- the number of the four bits and of the ratios begins with the four bits
head-begins : (l0 l1 l2 l3 l4 l5 l6 l7 o0 o1 o2 o3 o4 : ℕ) → l0 < 64 → l1 < 64 → l2 < 32 → l3 < 32 → l4 < 16 → l5 < 16 → l6 < 8 → l7 < 8 →
    o1 < 256 → o2 < 256 → o3 < 256 → o4 < 256 →
    ((((0 + o0) * 256 + o1) * 256 + o2) * 256 + o3) * 256 + o4
    ≡ (((((((13 * 64 + l0) * 64 + l1) * 32 + l2) * 32 + l3) * 16 + l4) * 16 + l5) * 8 + l6) * 8 + l7 → o0 / 16 ≡ 13
head-begins l0 l1 l2 l3 l4 l5 l6 l7 o0 o1 o2 o3 o4 a b c d e f g h p q r s is = omega arith

-- octets that carry a frame begin with the four bits
begins : (octets : List ℕ) (p : Params) → HasShape p → length octets ≡ 33 → All (λ x. x < 256) octets → Carries octets (fields_of p) →
    slice_index octets 0 / 16 ≡ magic
unfolding packed_from
begins octets p shape long all carried =
    let l = λ (k : ℕ). get_or p.larc k 0 in
    let o = λ (k : ℕ). get_or octets k 0 in
    let fit : (k : ℕ) → k < 8 → get_or p.larc k 0 < 2 ^ get_or larc_widths k 0 = λ k below. p.larc_fit k (omega (arith, shape.larc)) in
    let octet : (k : ℕ) → k < 33 → get_or octets k 0 < 256 = λ k below. all k 0 (omega (arith, long)) in
    head-begins (l 0) (l 1) (l 2) (l 3) (l 4) (l 5) (l 6) (l 7) (o 0) (o 1) (o 2) (o 3) (o 4) (fit 0 (omega arith)) (fit 1 (omega arith)) (fit 2 (omega arith))
    (fit 3 (omega arith)) (fit 4 (omega arith)) (fit 5 (omega arith)) (fit 6 (omega arith)) (fit 7 (omega arith)) (octet 1 (omega arith))
    (octet 2 (omega arith)) (octet 3 (omega arith)) (octet 4 (omega arith)) carried.head

-- and they carry no other
pub same-frame : (octets : List ℕ) (p q : Option Params) → length octets ≡ 33 → All (λ x. x < 256) octets → CarriesIf octets p → CarriesIf octets q →
    option_map fields_of p ≡ option_map fields_of q
same-frame octets None None long all a b = refl
same-frame octets None (Some q) long all a b = absurd (a (begins octets q b.1 long all b.0))
same-frame octets (Some p) None long all a b = absurd (b (begins octets p a.1 long all a.0))
same-frame octets (Some p) (Some q) long all a b =
    let s = one_frame p q a.1 b.1 octets a.0 b.0 in
    let same : fields_of p ≡ fields_of q = λ i. record { larc = s.larc i; nc = s.nc i; bc = s.bc i; mc = s.mc i; xmaxc = s.xmaxc i; xmc = s.xmc i } in
    ap (λ (f : Fields). Some f) same

pub one-heard : (kind : ℕ) (taf : Bool) (octets : List ℕ) (y z : Heard) → length octets ≡ 33 → All (λ x. x < 256) octets →
    HeardIn kind taf octets y → HeardIn kind taf octets z → y ≡ z
one-heard kind taf octets y z long all a b =
    a.heard ∙ ap (heard_by kind taf) (same-frame octets a.frame b.frame long all a.carried b.carried) ∙ sym b.heard
