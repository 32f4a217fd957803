-- What a period brought from the base station (RFC 3551, section 4.5.8.1; GSM 06.31, section 5.1; this project's
-- profile).
use Rattle.std.specs.Prelude.{◌≡◌, ℕ, ◌+◌, ◌/◌, ◌%◌, ◌^◌, Bool, true, false, not, ◌&&◌, if◌then◌else◌, ◌==◌, Option, Some, None, is_some, unwrap_or, List, replicate, slice_index}
use Rattle.trau_params.specs.Silence.{silent_fields}
use Rattle.gsm_frame.specs.Packed.{magic, Carries}
use Rattle.fr_sides.specs.CodeWord.{KindIn}
use Rattle.call_coders.specs.declared.coders.Brought.{Brought}
use Rattle.rtp_call.specs.declared.hearing.Hearing.{Hearing}

-- before the first period
abbrev pub hearing_home : Bool → Hearing
hearing_home primes = record {
  is_to_prime = primes;
  since_descriptor = None;
  speech = 0;
  descriptors = 0;
  invalid = 0;
  none = 0;
  no_frames = 0;
}

-- the kinds of a period (`fr_sides`)
abbrev pub descriptor_kind : ℕ
descriptor_kind = 1

abbrev pub lost_kind : ℕ
lost_kind = 2

-- the kind of a period by its frame
abbrev pub IsKind : Option (List ℕ) → ℕ → Type 0
IsKind None kind = kind ≡ lost_kind
IsKind (Some octets) kind = KindIn octets kind

-- octets that don't begin with the four bits 1101 are no frame
abbrev pub frame_in : Option (List ℕ) → Option (List ℕ)
frame_in None = None
frame_in (Some octets) = if slice_index octets 0 / 16 == magic then Some octets else None

-- the first period may be made good: if what came can't be used, it brings the frame of silence
pub record IsMadeGood (came frame : Option (List ℕ)) : Type 0 where
  pub kind : ℕ
  pub kind_is : IsKind came kind
  pub good : (kind == lost_kind) ≡ false → frame ≡ frame_in came
  pub silence : (kind == lost_kind) ≡ true → (octets : List ℕ) × (frame ≡ Some octets) × Carries octets silent_fields

-- **The frame of a period is what came for it,** or in the first one what that is made.
pub record IsFrameOf (primes : Bool) (came frame : Option (List ℕ)) : Type 0 where
  pub first : primes ≡ true → IsMadeGood came frame
  pub later : primes ≡ false → frame ≡ frame_in came

-- The periods since the last silence descriptor, while comfort noise goes on: after 24 it is 1 again. One is due in the
-- 24th.
abbrev pub due_after : ℕ
due_after = 24

abbrev pub one_more : Option ℕ → Option ℕ
one_more None = None
one_more (Some periods) = Some (periods % due_after + 1)

abbrev pub since_after : ℕ → Option ℕ → Option ℕ
since_after kind since = if kind == 0 then None else if kind == descriptor_kind then Some 0 else one_more since

abbrev pub is_due : Option ℕ → Bool
is_due None = false
is_due (Some periods) = periods == due_after

-- a count, which goes on from the greatest number to 0
abbrev pub counted_if : Bool → ℕ → ℕ
counted_if happened count = if happened then (count + 1) % 2 ^ 32 else count

-- a frame that is neither speech nor a silence descriptor can't be used
abbrev pub is_invalid : ℕ → Bool
is_invalid kind = not (kind == 0) && not (kind == descriptor_kind)

-- **What a period brought**, by the octets that came for it: a frame, its kind, and whether a silence descriptor was
-- due and none came. The period counts once, by its frame's kind or as one without a frame, and once more if octets
-- came that are no frame.
pub record Hears (old new : Hearing) (came : Option (List ℕ)) (brought : Brought) : Type 0 where
  pub frame : Option (List ℕ)
  pub frame_is : IsFrameOf old.is_to_prime came frame
  pub octets : brought.frame ≡ unwrap_or frame (replicate 33 0)
  pub kind : IsKind frame brought.kind
  pub taf : brought.taf ≡ (not (is_some frame) && is_due new.since_descriptor)
  pub since : new.since_descriptor ≡ since_after brought.kind old.since_descriptor
  pub primed : new.is_to_prime ≡ false
  pub speech : new.speech ≡ counted_if (is_some frame && (brought.kind == 0)) old.speech
  pub descriptors : new.descriptors ≡ counted_if (is_some frame && (brought.kind == descriptor_kind)) old.descriptors
  pub invalid : new.invalid ≡ counted_if (is_some frame && is_invalid brought.kind) old.invalid
  pub none : new.none ≡ counted_if (not (is_some frame)) old.none
  pub no_frames : new.no_frames ≡ counted_if (not (is_some frame) && is_some came) old.no_frames
