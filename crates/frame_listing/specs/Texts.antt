-- The texts of a listing (this project's profile).
use Rattle.std.specs.Prelude.{ℕ, List, ◌++◌, codes, decimal}
use Rattle.std.specs.List.{flat_map}
use Rattle.trau_frame.specs.declared.frames.Kind.{Kind}
use Rattle.trau_frame.specs.declared.frames.Kind.TheVariants.{Speech, Idle, Other}
use Rattle.trau_frame.specs.declared.frames.Class.{Class}
use Rattle.trau_frame.specs.declared.frames.Class.TheVariants.{Good, Sid, InvalidSid, Unusable}
use Rattle.trau_frame.specs.UpFrame.{kind_of, class_of}
use Rattle.frame_sync.specs.declared.yields.Yield.{Yield}
use Rattle.frame_sync.specs.declared.yields.Yield.TheVariants.{Frame, Miss}
use Rattle.frame_sync.specs.Yields.{place_of}
use Rattle.frame_sync.specs.Periods.{all_yields}

-- the word for a frame by its kind and class
abbrev pub word_by : Kind → Class → List ℕ
word_by Speech Good = codes "good"
word_by Speech Sid = codes "sid"
word_by Speech InvalidSid = codes "invalid"
word_by Speech Unusable = codes "bad"
word_by Idle class = codes "idle"
word_by Other class = codes "other"

-- the word for a yield
abbrev pub word_of : Yield → List ℕ
word_of (Frame p f) = word_by (kind_of f) (class_of f)
word_of (Miss p) = codes "miss"

-- the line of text of a yield: its place, a space and its word
unfoldable pub line_of : Yield → List ℕ
line_of y = decimal (place_of y) ++ (codes " " ++ (word_of y ++ codes "\n"))

-- the lines of all yields of the periods
abbrev pub listed : List (List ℕ) → List ℕ
listed periods = flat_map line_of (all_yields periods)
