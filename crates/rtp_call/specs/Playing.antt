-- Which periods are soft, so that a slip is heard less (this project's profile).
use Rattle.std.specs.Prelude.{◌≡◌, ℕ, ℤ, pos, neg_ℤ, Bool, false, ◌&&◌, nat_le, int_lt, ◌==◌, Option, Some, None, option_map, List}
use Rattle.std.specs.List.{list_all}
use Rattle.trau_alaw.specs.declared.Law.{Law}
use Rattle.trau_alaw.specs.Period.{expanded}
use Rattle.trau_params.specs.declared.params.Params.{Params}
use Rattle.trau_params.specs.Fields.{Fields, fields_of}
use Rattle.fr_sides.specs.Octets.{CarriesIf}
use Rattle.fr_sides.specs.CodeWord.{KindIn}

-- block maxima with codes up to it, and samples below it, are soft
abbrev pub soft_block : ℕ
soft_block = 4

abbrev pub soft_sample : ℤ
soft_sample = pos 256

abbrev pub has_soft_blocks : Option Fields → Bool
has_soft_blocks None = false
has_soft_blocks (Some frame) = list_all (λ maximum. nat_le maximum soft_block) frame.xmaxc

-- **Octets are soft if they are a frame of speech and each of its four blocks is.** A silence descriptor isn't: a pause
-- needs it.
pub record IsSoftFrame (octets : List ℕ) (soft : Bool) : Type 0 where
  pub frame : Option Params
  pub carried : CarriesIf octets frame
  pub kind : ℕ
  pub kind_is : KindIn octets kind
  pub soft_is : soft ≡ (has_soft_blocks (option_map fields_of frame) && (kind == 0))

-- **A period of a line is soft if each of its samples is.**
abbrev pub is_soft_sample : ℤ → Bool
is_soft_sample x = int_lt x soft_sample && int_lt (neg_ℤ soft_sample) x

abbrev pub IsSoftLine : Law → List ℕ → Bool → Type 0
IsSoftLine law octets soft = soft ≡ list_all is_soft_sample (expanded law octets)
