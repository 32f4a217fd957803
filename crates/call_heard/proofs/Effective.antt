-- The effective frames of a call have their 260 bits, whatever its uplink.
use Rattle.std.proofs.Common.{◌≡◌, refl, ◌∙◌, ℕ, ◌<◌, zero, suc, min, nat_le, nat_lt, Bool, List, [], ◌∷◌, length, arith}
use Rattle.std.specs.Prelude.{◌==◌, slice_index_or}
use Rattle.std.specs.List.{zip}
use Rattle.std.proofs.lemmas.Bool.{cond_both}
use Rattle.std.proofs.lemmas.List.{length-map}
use Rattle.std.proofs.lemmas.Slice.Zip.{length-zip}
use Rattle.trau_frame.specs.declared.frames.Kind.{Kind}
use Rattle.trau_frame.specs.declared.frames.Kind.TheVariants as kinds
use Rattle.trau_frame.specs.declared.frames.Class.{Class}
use Rattle.trau_frame.specs.declared.frames.Class.TheVariants as classes
use Rattle.trau_params.specs.Fields.{Fields, fields_in}
use Rattle.trau_params.specs.Silence.{silent_fields}
use Rattle.rx_subst.specs.Lost.{silent_from_lost, muted_of, lost_of}
use Rattle.rx_noise.specs.Noise.{silent_from_fall, noise_pulses, all_noise_pulses, noise_at, noise_of}
use Rattle.rx_noise.specs.Mix.{mixture, mix_of}
use Rattle.rx_handler.specs.Heard.{Heard, Good, Sid, Idle, Lost, heard_speech, heard_frame}
use Rattle.rx_handler.specs.Origin.{Origin, NoFrame, GoodFrame, LostFrame, NoiseFrame, frame_of}
use Rattle.rx_handler.specs.Effective.{is_anchor}
use Rattle.rx_handler.specs.Past.{Anchor, NoAnchor, AtGood, AtSid, anchor_after, anchor_of, periods_of_fall, approached_of, start_from, approach_start_of, origin_from}
use Rattle.rx_handler.specs.Past.{effective_of}
use Rattle.call_leg.specs.Uplink.{Sighting, Nothing, Missed, Framed, heard_as, handed_fields}
use Rattle.call_heard.proofs.Shapes.{HasShape}

-- ---- fields

shape-fields_in : (bits : List ℕ) → HasShape (fields_in bits)
unfolding fields_in
shape-fields_in bits = record { larc = refl; pulses = rows }
  where
    rows : (j : ℕ) → j < 4 → length (slice_index_or (fields_in bits).xmc j []) ≡ 13
    rows zero below = refl
    rows (suc zero) below = refl
    rows (suc (suc zero)) below = refl
    rows (suc (suc (suc zero))) below = refl
    rows (suc (suc (suc (suc j)))) below = absurd (omega (arith, below))

shape-silent : HasShape silent_fields
shape-silent = record { larc = refl; pulses = rows }
  where
    rows : (j : ℕ) → j < 4 → length (slice_index_or silent_fields.xmc j []) ≡ 13
    rows zero below = refl
    rows (suc zero) below = refl
    rows (suc (suc zero)) below = refl
    rows (suc (suc (suc zero))) below = refl
    rows (suc (suc (suc (suc j)))) below = absurd (omega (arith, below))

shape-muted : (last : Fields) (steps : ℕ) (draw : ℕ → ℕ → ℕ) → HasShape last → HasShape (muted_of last steps draw)
unfolding muted_of
shape-muted last steps draw shape = record { larc = shape.larc; pulses = shape.pulses }

shape-lost : (last : Fields) (n : ℕ) (draw : ℕ → ℕ → ℕ) → HasShape last → HasShape (lost_of last n draw)
unfolding lost_of
shape-lost last n draw shape =
    cond_both (nat_le n 1) last _ HasShape (λ y. shape)
    (λ m. cond_both (nat_lt n silent_from_lost) (muted_of last _ draw) silent_fields HasShape
    (λ y. shape-muted last _ draw shape) (λ k. shape-silent))

pulses-noise : (draw : ℕ → ℕ → ℕ) (j : ℕ) → j < 4 → length (slice_index_or (all_noise_pulses draw) j []) ≡ 13
unfolding all_noise_pulses noise_pulses
pulses-noise draw zero below = refl
pulses-noise draw (suc zero) below = refl
pulses-noise draw (suc (suc zero)) below = refl
pulses-noise draw (suc (suc (suc zero))) below = refl
pulses-noise draw (suc (suc (suc (suc j)))) below = absurd (omega (arith, below))

shape-noise : (sid : Fields) (fall : ℕ) (draw : ℕ → ℕ → ℕ) → HasShape sid → HasShape (noise_of sid fall draw)
unfolding noise_of noise_at
shape-noise sid fall draw shape =
    cond_both (nat_lt fall silent_from_fall) (noise_at sid fall draw) silent_fields HasShape
    (λ y. record { larc = shape.larc; pulses = pulses-noise draw })
    (λ n. shape-silent)

shape-mix : (old new : Fields) (i : ℕ) → HasShape old → HasShape new → HasShape (mix_of old new i)
unfolding mix_of
shape-mix old new i before after = record {
  larc = length-map (zip old.larc new.larc) (λ codes. mixture i codes.0 codes.1) ∙ length-zip old.larc new.larc ∙
      (λ i. min (before.larc i) (after.larc i));
  pulses = after.pulses;
}

-- ---- what is heard

-- a heard frame whose parameters have their shape
abbrev pub IsShaped : Heard → Type 0
IsShaped (Good p) = HasShape p
IsShaped (Sid q) = HasShape q
IsShaped Idle = Unit {0}
IsShaped (Lost missed) = Unit {0}

-- all of them have
abbrev pub AreShaped : List Heard → Type 0
AreShaped [] = Unit {0}
AreShaped (y ∷ past) = IsShaped y × AreShaped past

shaped-speech : (class : Class) (p : Fields) (taf : Bool) → HasShape p → IsShaped (heard_speech class p taf)
shaped-speech classes.Good p taf shape = shape
shaped-speech classes.Sid p taf shape = shape
shaped-speech classes.InvalidSid p taf shape = tt
shaped-speech classes.Unusable p taf shape = tt

shaped-frame : (kind : Kind) (class : Class) (taf : Bool) (d : List ℕ) → IsShaped (heard_frame kind class taf d)
shaped-frame kinds.Speech class taf d = shaped-speech class (fields_in d) taf (shape-fields_in d)
shaped-frame kinds.Idle class taf d = tt
shaped-frame kinds.Other class taf d = tt

-- what is heard has
pub shaped-sighting : (s : Sighting) → IsShaped (heard_as s)
shaped-sighting Nothing = tt
shaped-sighting Missed = tt
shaped-sighting (Framed w) = shaped-frame w.kind w.class w.taf w.d

-- ---- what effective frames are made from

abbrev IsShapedAnchor : Anchor → Type 0
IsShapedAnchor NoAnchor = Unit {0}
IsShapedAnchor (AtGood p since) = HasShape p
IsShapedAnchor (AtSid q since) = HasShape q

shaped-more : (y : Heard) (a : Anchor) → IsShapedAnchor a → IsShapedAnchor (anchor_after y a)
shaped-more y NoAnchor shape = tt
shaped-more y (AtGood p since) shape = shape
shaped-more y (AtSid q since) shape = shape

shaped-anchor : (past : List Heard) → AreShaped past → IsShapedAnchor (anchor_of past)
unfolding anchor_of
shaped-anchor [] shaped = tt
shaped-anchor (Good p ∷ past) shaped = shaped.0
shaped-anchor (Sid q ∷ past) shaped = shaped.0
shaped-anchor (Idle ∷ past) shaped = tt
shaped-anchor (Lost missed ∷ past) shaped = shaped-more (Lost missed) (anchor_of past) (shaped-anchor past shaped.1)

shape-start : (a : Anchor) (old : Fields → Fields) (q : Fields) → IsShapedAnchor a → ((r : Fields) → HasShape r → HasShape (old r)) → HasShape q →
    HasShape (start_from a old q)
shape-start NoAnchor old q anchor each shape = shape
shape-start (AtGood p since) old q anchor each shape = shape
shape-start (AtSid r since) old q anchor each shape =
    cond_both (periods_of_fall since == 0) (approached_of (old r) r since) q HasShape (λ y. shape-mix (old r) r _ (each r anchor) anchor) (λ n. shape)

shape-old : (past : List Heard) → AreShaped past → (q : Fields) → HasShape q → HasShape (approach_start_of past q)
unfolding approach_start_of
shape-old [] shaped q shape = shape
shape-old (y ∷ past) shaped q shape =
    cond_both (is_anchor y) (start_from (anchor_of past) (λ r. approach_start_of past r) q) (approach_start_of past q) HasShape
    (λ y. shape-start (anchor_of past) (λ r. approach_start_of past r) q (shaped-anchor past shaped.1) (λ r h. shape-old past shaped.1 r h) shape)
    (λ n. shape-old past shaped.1 q shape)

abbrev IsShapedOrigin : Origin → Type 0
IsShapedOrigin NoFrame = Unit {0}
IsShapedOrigin (GoodFrame p) = HasShape p
IsShapedOrigin (LostFrame p n) = HasShape p
IsShapedOrigin (NoiseFrame q fall) = HasShape q

shaped-origin : (a : Anchor) (old : Fields → Fields) → IsShapedAnchor a → ((r : Fields) → HasShape r → HasShape (old r)) → IsShapedOrigin (origin_from old a)
shaped-origin NoAnchor old anchor each = tt
shaped-origin (AtGood p []) old anchor each = anchor
shaped-origin (AtGood p (y ∷ since)) old anchor each = anchor
shaped-origin (AtSid q since) old anchor each = shape-mix (old q) q _ (each q anchor) anchor

shape-handed : (o : Origin) (draw : ℕ → ℕ → ℕ) → IsShapedOrigin o → HasShape (handed_fields (frame_of o draw))
shape-handed NoFrame draw origin = shape-silent
shape-handed (GoodFrame p) draw origin = origin
shape-handed (LostFrame p n) draw origin = shape-lost p n draw origin
shape-handed (NoiseFrame q fall) draw origin = shape-noise q fall draw origin

-- **The parameters of an effective frame have their shape.**
pub shape-effective : (number : ℕ) (past : List Heard) → AreShaped past → HasShape (handed_fields (effective_of number past))
unfolding effective_of
shape-effective number [] shaped = shape-silent
shape-effective number (y ∷ past) shaped =
    shape-handed _ _
    (shaped-origin (anchor_of (y ∷ past)) (λ q. approach_start_of (y ∷ past) q) (shaped-anchor (y ∷ past) shaped) (λ r h. shape-old (y ∷ past) shaped r h))
