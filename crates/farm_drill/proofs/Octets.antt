-- The octets of a period, and a line of one period more.
use Rattle.std.proofs.Common.{◌≡◌, ◌≢◌, ℕ, ◌+◌, ◌/◌, ◌%◌, ◌<◌, ◌≤◌, Bool, true, false, List, [], ◌∷◌, ◌++◌, replicate, refl, sym, ap, ◌∙◌, arith}
use Rattle.std.specs.Prelude.{◌==◌, nat_lt}
use Rattle.std.specs.List.{range_with_len, flat_map}
use Rattle.std.proofs.lemmas.Bool.{eq-eqb, ne_eqb, lt-ltb, le-ltb}
use Rattle.std.proofs.lemmas.List.{append-nil, map-id}
use Rattle.std.proofs.lemmas.List.Concat.{flat_map-append}
use Rattle.std.proofs.lemmas.List.FromFn.{map-range_with_len_more}
use Rattle.trau_bits.specs.Bits.{octets_of}
use Rattle.trau_frame.specs.declared.frames.Kind.{Kind}
use Rattle.trau_frame.specs.declared.frames.Class.{Class}
use Rattle.trau_frame.specs.UpFrame.{UpWords}
use Rattle.trau_frame.specs.UpBits.{bits_saying}
use Rattle.farm_drill.specs.Draws.{draw, draws, drawn_bits, is_loud, first_draw, first_loud_draw}
use Rattle.farm_drill.specs.Uplink.{kind_drawn, class_drawn, field_drawn, frame_drawn, up_octets}
use Rattle.farm_drill.specs.Lines.{pcm_octets}

-- ---- the exchange's side

pub pcm-loud : (seed call period : ℕ) → period / 32 % 2 ≡ 1 → pcm_octets seed call period ≡ draws seed call (first_loud_draw period) 160
unfolding pcm_octets
pcm-loud seed call period loud = let e : is_loud period ≡ true = eq-eqb (period / 32 % 2) 1 loud in rw e refl

pub pcm-quiet : (seed call period : ℕ) → period / 32 % 2 ≢ 1 → pcm_octets seed call period ≡ replicate 160 213
unfolding pcm_octets
pcm-quiet seed call period quiet = let e : is_loud period ≡ false = ne_eqb (period / 32 % 2) 1 quiet in rw e refl

-- ---- the uplink

pub up-none : (seed call period t : ℕ) → t ≡ draw seed call (first_draw period) → 250 ≤ t → up_octets seed call period ≡ replicate 40 0
unfolding up_octets
up-none seed call period t drawn none =
    let e : nat_lt (draw seed call (first_draw period)) 250 ≡ false = sym (ap (λ (n : ℕ). nat_lt n 250) drawn) ∙ le-ltb t 250 none in
    rw e refl

pub up-some : (seed call period t : ℕ) → t ≡ draw seed call (first_draw period) → t < 250 →
    up_octets seed call period ≡ octets_of (bits_saying (frame_drawn seed call period))
unfolding up_octets
up-some seed call period t drawn some =
    let e : nat_lt (draw seed call (first_draw period)) 250 ≡ true = sym (ap (λ (n : ℕ). nat_lt n 250) drawn) ∙ lt-ltb t 250 some in
    rw e refl

pub words-drawn : (seed call period t a : ℕ) (d : List ℕ) (kind : Kind) (class : Class) (taf : Bool) (align : ℕ) →
    t ≡ draw seed call (first_draw period) → d ≡ drawn_bits seed call (first_draw period + 1) 260 → a ≡ draw seed call (first_draw period + 261) →
    kind ≡ kind_drawn t → class ≡ class_drawn t → taf ≡ (period % 24 == 23) → align ≡ field_drawn a →
    ◌≡◌ {A = UpWords} (record { kind = kind; class = class; taf = taf; dtxd = true; align = align; d = d }) (frame_drawn seed call period)
words-drawn seed call period t a d kind class taf align drawn bits last k c f e =
    let kinds : kind ≡ kind_drawn (draw seed call (first_draw period)) = k ∙ ap kind_drawn drawn in
    let classes : class ≡ class_drawn (draw seed call (first_draw period)) = c ∙ ap class_drawn drawn in
    let fields : align ≡ field_drawn (draw seed call (first_draw period + 261)) = e ∙ ap field_drawn last in
    cc

-- ---- whole lines

pub range-more : (first n : ℕ) → range_with_len first (n + 1) ≡ range_with_len first n ++ (first + n) ∷ []
range-more first n =
    sym (map-id (range_with_len first (n + 1))) ∙ map-range_with_len_more (λ (x : ℕ). x) first n (first + n) refl
    ∙ ap (λ (xs : List ℕ). xs ++ (first + n) ∷ []) (map-id (range_with_len first n))

pub line-more : (f : ℕ → List ℕ) (n : ℕ) → flat_map f (range_with_len 0 (n + 1)) ≡ flat_map f (range_with_len 0 n) ++ f n
line-more f n =
    ap (flat_map f) (range-more 0 n ∙ ap (λ (k : ℕ). range_with_len 0 n ++ k ∷ []) (zero_add n))
    ∙ flat_map-append f (range_with_len 0 n) (n ∷ [])
    ∙ ap (λ (xs : List ℕ). flat_map f (range_with_len 0 n) ++ xs) (append-nil (f n))
  where
    zero_add : (k : ℕ) → 0 + k ≡ k
    zero_add k = omega arith
