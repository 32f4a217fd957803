-- Worked calls, by computing. Lists have the newest period first.
use Rattle.std.proofs.Common.{◌≡◌, refl, ℕ, ℤ, pos, Bool, true, false, Option, Some, None, is_some, length, List, [], ◌∷◌, ◌++◌, map, replicate}
use Rattle.std.specs.List.{flat_map}
use Rattle.std.proofs.lemmas.Bool.{false≢true}
use Rattle.std.proofs.lemmas.List.Elements.{All-from_recursion, All-same, All-replicate}
use Rattle.trau_alaw.specs.declared.Law.TheVariants.{A}
use Rattle.trau_bits.specs.Bits.{bits_of}
use Rattle.trau_params.specs.Fields.{Fields, fields_in}
use Rattle.trau_orders.specs.declared.order.DtxMode.TheVariants.{On}
use Rattle.trau_frame.specs.DownFrame.{down_bits, down_control}
use Rattle.trau_frame.specs.Frame.{number_in, data_of, frame_bits}
use Rattle.trau_frame.specs.Role.{role_of, place_of_role}
use Rattle.trau_frame.specs.UpFrame.{words_in}
use Rattle.trau_frame.specs.Match.{is_match, frame_at}
use Rattle.frame_sync.specs.Periods.{searched, first_match, line_bits, mode_after}
use Rattle.time_align.specs.Shift.{shift_of}
use Rattle.rx_handler.specs.Heard.{Good}
use Rattle.rx_handler.specs.Past.{effective_of, anchor_of}
use Rattle.fr_sides.specs.Receiving.{decoded_stretch}
use Rattle.call_leg.specs.Who.{Who}
use Rattle.call_leg.specs.Periods.{CallPeriod, sighting_after}
use Rattle.call_sides.specs.Received.{receiver_period, receiver_periods}
use Rattle.call_leg.specs.Down.{down_periods}
use Rattle.call_sides.specs.Sent.{AsksNoShift, AreUnshifted, frames_by_period, sender_periods, line_sent}

abbrev who : Who
who = record { number = 1; law = A }

-- a period at this level, with these octets of the Up line; in a bridge, with what is handed over, and whether it
-- starts there
abbrev period : List ℕ → ℤ → Bool → Option (List ℕ) → CallPeriod
period up level starts handed = record { up = up; pcm = replicate 160 213; level = level; mode = On; starts = starts; handed = handed }

-- ---- three periods without an uplink frame: the receive side is quiet, and after 320 ones come two idle frames

abbrev silent : List CallPeriod
silent = replicate 3 (period (replicate 40 0) (pos 256) false None)

abbrev idle : List ℕ
idle = 0 ∷ 0 ∷ 184 ∷ 15 ∷ replicate 36 255

silent_line : line_sent who silent ≡ replicate 320 1 ++ (bits_of idle ++ bits_of idle)
unfolding sighting_after searched first_match is_match role_of line_bits mode_after bits_of effective_of anchor_of down_bits down_control frame_bits
silent_line = refl

-- ---- five periods of good speech at the levels 1 to 5, the second in a bridge

abbrev speech : List ℕ
speech = 0 ∷ 0 ∷ 136 ∷ 0 ∷ flat_map {X = ℕ} (λ k. 128 ∷ 0 ∷ []) (replicate 18 0)

abbrev item : List ℕ
item = 0 ∷ replicate 258 1 ++ 0 ∷ []

abbrev alone : ℤ → CallPeriod
alone level = period speech level false None

abbrev in_bridge : ℤ → CallPeriod
in_bridge level = period speech level true (Some item)

abbrev bridged : List CallPeriod
bridged = alone (pos 5) ∷ alone (pos 4) ∷ alone (pos 3) ∷ in_bridge (pos 2) ∷ alone (pos 1) ∷ []

-- what is said in the frame
abbrev parameters : Fields
parameters = fields_in (data_of (bits_of speech))

-- the receive side gets the five frames, the second of them in a bridge, and has decoded three since
bridged_heard : receiver_periods bridged ≡ receiver_period (Good parameters) false ∷ receiver_period (Good parameters) false ∷
    receiver_period (Good parameters) false ∷ receiver_period (Good parameters) true ∷ receiver_period (Good parameters) false ∷ []
unfolding sighting_after searched first_match is_match role_of line_bits mode_after bits_of words_in number_in place_of_role frame_at
bridged_heard = refl

bridged_decoded : decoded_stretch 1 (receiver_periods bridged) ≡ parameters ∷ parameters ∷ parameters ∷ []
unfolding sighting_after searched first_match is_match role_of line_bits mode_after bits_of words_in number_in place_of_role frame_at effective_of anchor_of
bridged_decoded = refl

-- the transmit side has sent the last three
bridged_sent : map (λ t. t.level) (sender_periods who bridged) ≡ pos 5 ∷ pos 4 ∷ pos 3 ∷ []
unfolding sighting_after searched first_match is_match role_of line_bits mode_after bits_of words_in number_in place_of_role frame_at effective_of anchor_of
bridged_sent = refl

-- each period makes the frame of its own octets, the second with the item
bridged_starts : map (λ f. f.start) (frames_by_period bridged) ≡ 640 ∷ 480 ∷ 320 ∷ 160 ∷ 0 ∷ []
bridged_starts = refl

bridged_carries : map (λ f. f.carries) (frames_by_period bridged) ≡ None ∷ None ∷ None ∷ Some 1 ∷ None ∷ []
bridged_carries = refl

-- no shift is asked for, and the bridge has a period: so the laws of the Down line hold of this call
bridged_fields : map (λ p. p.field) (down_periods bridged) ≡ replicate 5 (Some 0)
unfolding sighting_after searched first_match is_match role_of line_bits mode_after bits_of words_in number_in place_of_role frame_at
bridged_fields = refl

asks-none : AsksNoShift (Some 0)
unfolding shift_of
asks-none = refl

not-true : {P : Type 0} → false ≡ true → P
not-true e = absurd (false≢true e)

abbrev HasPeriod : CallPeriod → Type 0
HasPeriod t = t.starts ≡ true → is_some t.handed ≡ true

abbrev HasOctets : CallPeriod → Type 0
HasOctets t = length t.pcm ≡ 160

bridged_unshifted : AreUnshifted bridged
bridged_unshifted = record {
  pcms = All-from_recursion HasOctets bridged (refl, (refl, (refl, (refl, (refl, tt)))));
  fields = All-same AsksNoShift _ _ bridged_fields (All-replicate AsksNoShift 5 (Some 0) asks-none);
  bridges = (((((tt, not-true, not-true), (λ e. refl), (λ e. refl)), not-true, not-true), not-true, not-true), not-true, not-true);
  begun = All-from_recursion HasPeriod bridged (not-true, (not-true, (not-true, ((λ e. refl), (not-true, tt)))));
}
