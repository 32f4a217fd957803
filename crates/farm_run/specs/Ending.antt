-- The ends of calls, as they are reported to the board (this project's profile).
use Rattle.std.specs.Prelude.{◌≡◌, ◌≤◌, ℕ, Bool, true, false, ◌||◌, if◌then◌else◌, Option, Some, None, List, [], ◌∷◌, ◌==◌}
use Rattle.std.specs.List.{All, list_any}
use Rattle.trau_io.specs.declared.ends.CallEnd.{CallEnd}
use Rattle.trau_io.specs.declared.ends.Cause.TheVariants.{Limit}
use Rattle.switchboard.specs.State.{State, last_stamp, told_more}
use Rattle.switchboard.specs.Open.{open_now}

-- the board after these ends were reported to it, one after another
abbrev pub told_after : State → List CallEnd → State
told_after s [] = s
told_after s (e ∷ ends) = told_after (told_more s e) ends

-- whether the end of a call is one of these
abbrev pub is_told : ℕ → List CallEnd → Bool
is_told c ends = list_any (λ e. c == e.call) ends

-- ends of calls that are open
abbrev pub AreOpen : State → List CallEnd → Type 0
AreOpen s ends = All (λ e. open_now s e.call ≡ true) ends

-- no call has two of these ends
abbrev pub AreApart : List CallEnd → Type 0
AreApart [] = Unit {0}
AreApart (e ∷ ends) = (is_told e.call ends ≡ false) × AreApart ends

-- none of these ends is before the stamp of an executed order
abbrev pub AreLate : State → List CallEnd → Type 0
AreLate s ends = All (λ e. last_stamp s.done ≤ e.at) ends

-- there is a partner, and its end is one of these
abbrev pub has_left : Option ℕ → List CallEnd → Bool
has_left None ends = false
has_left (Some p) ends = is_told p ends

-- the partner of a call after these ends: none if one of the two has ended
abbrev pub partner_past : List CallEnd → (ℕ → Option ℕ) → ℕ → Option ℕ
partner_past ends partner c =
    if is_told c ends || has_left (partner c) ends then None else partner c

-- the end of a call that is open when the run ends
abbrev pub limit_at : ℕ → ℕ → CallEnd
limit_at at c = record { call = c; at = at; cause = Limit }
