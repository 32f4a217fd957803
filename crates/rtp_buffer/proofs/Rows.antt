-- A row with one octet more.
use Rattle.std.proofs.Common.{◌≡◌, ℕ, ◌+◌, ◌<◌, List, length, refl, arith}
use Rattle.std.specs.Prelude.{slice_index_or, slice_index, slice_set, Some, None}
use Rattle.std.proofs.lemmas.List.{get_or-set_same, get_or-set_other}
use Rattle.rtp_buffer.specs.declared.octet.Octet.{Octet}
use Rattle.rtp_buffer.specs.declared.octet.Octet.TheVariants.{Missing, Held, Played}
use Rattle.rtp_buffer.specs.Octets.{with_octet, came}

with_none : (octet : Octet) → with_octet octet None ≡ octet
with_none Missing = refl
with_none (Held octet) = refl
with_none Played = refl

pub put_more : (row old : List Octet) (octets : List ℕ) (part n k : ℕ) (new : Octet) → part + n < length row →
    slice_index_or row k Missing ≡ with_octet (slice_index_or old k Missing) (came part octets n k) →
    slice_index_or row (part + n) Missing ≡ with_octet (slice_index_or old (part + n) Missing) (came part octets n (part + n)) →
    new ≡ with_octet (slice_index_or row (part + n) Missing) (Some (slice_index octets n)) →
    slice_index_or (slice_set row (part + n) new) k Missing ≡ with_octet (slice_index_or old k Missing) (came part octets (n + 1) k)
put_more row old octets part n k new l h here e =
    grind (arith, get_or-set_same row (part + n) new Missing l, get_or-set_other row (part + n) k new Missing, h, here, e, with_none (slice_index_or old (part + n) Missing))
