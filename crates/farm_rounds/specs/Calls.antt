-- The calls of a farm, by their numbers (this project's profile).
use Rattle.std.specs.Prelude.{ℕ, ◌==◌, Bool, Option, List}
use Rattle.std.specs.Option.{option_map, option_and_then}
use Rattle.std.specs.List.{find}
use Rattle.call_leg.specs.Memory.{LegMemory}

-- an open call: its number, its leg, and whether its outgoing lines have failed
pub record Call : Type 0 where
  pub number : ℕ
  pub leg : LegMemory
  pub down_failed : Bool
  pub out_failed : Bool

-- an open call with the number of its partner, if it is bridged
pub record Kept : Type 0 where
  pub call : Call
  pub partner : Option ℕ

-- the call with this number, if it is open, and its partner's number, if it is bridged
abbrev pub kept_in : List Kept → ℕ → Option Kept
kept_in calls c = find (λ k. k.call.number == c) calls

abbrev pub call_in : List Kept → ℕ → Option Call
call_in calls c = option_map (λ k. k.call) (kept_in calls c)

abbrev pub partner_in : List Kept → ℕ → Option ℕ
partner_in calls c = option_and_then (λ k. k.partner) (kept_in calls c)
