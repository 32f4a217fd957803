-- The frames of 33 octets from which a host writes its Down line.
use Rattle.std.specs.Prelude.{◌≡◌, ◌<◌, ℕ, Bool, if◌then◌else◌, All, List, length}

abbrev pub AreOctets33 : List ℕ → Type 0
AreOctets33 frame = (length frame ≡ 33) × All (λ x. x < 256) frame

-- the kind of a frame that is sent: 0 for speech (SP 1), 1 for a silence descriptor
abbrev pub kind_of_sp : Bool → ℕ
kind_of_sp sp = if sp then 0 else 1
