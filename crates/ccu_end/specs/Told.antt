-- What the command `follow` prints and sends up for the frames that were heard (this project's profile). `heard` has
-- the newest period first.
use Rattle.std.specs.Prelude.{ℕ, List, [], ◌∷◌, ◌++◌, codes, decimal, Option, Some, None}
use Rattle.std.specs.List.{flat_map}
use Rattle.trau_bits.specs.Bits.{octets_of}
use Rattle.trau_frame.specs.declared.frames.DownFrame.{DownFrame}
use Rattle.trau_frame.specs.declared.frames.DownFrame.TheVariants.{Idle, Speech}
use Rattle.trau_frame.specs.UpFrame.{UpWords}
use Rattle.trau_frame.specs.UpBits.{bits_saying}
use Rattle.ccu_end.specs.Found.{FoundFrame}
use Rattle.ccu_end.specs.Heard.{all_of}
use Rattle.ccu_end.specs.Asked.{asked}

-- the word for what a frame says
abbrev pub word_of : Option DownFrame → List ℕ
word_of None = codes "other"
word_of (Some Idle) = codes "idle"
word_of (Some (Speech d sp)) = codes "speech"

-- the line of text of a found frame: its place, a space and its word
unfoldable pub line_of : FoundFrame → List ℕ
line_of f = decimal f.place ++ (codes " " ++ (word_of f.frame ++ codes "\n"))

-- the lines of these frames
abbrev pub lines_of : List FoundFrame → List ℕ
lines_of fs = flat_map line_of fs

-- the lines of all frames that were heard, the oldest first
abbrev pub listed : List (List FoundFrame) → List ℕ
listed heard = lines_of (all_of heard)

-- the 40 octets of an uplink frame
abbrev pub octets_saying : UpWords → List ℕ
octets_saying words = octets_of (bits_saying words)

-- the octets of what is sent up in all periods, the oldest first
unfoldable pub sent_up : ℕ → List (List FoundFrame) → List ℕ
sent_up want [] = []
sent_up want (fs ∷ heard) = sent_up want heard ++ octets_saying (asked want (fs ∷ heard))
