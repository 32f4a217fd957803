-- A live farm: its calls' slots, and the seats that a caller has at them.
use Rattle.std.specs.Prelude.{◌≡◌, ◌≢◌, ℕ, ◌+◌, ◌-◌, ◌<◌, ◌≤◌, false, if◌then◌else◌, ◌==◌, Option, List, length, take, drop, slice_index_or, Result, Ok, Err}
use Rattle.crossbeam_queue.specs.Passes.{view, IsPassOf, ruled_capacity}
use Rattle.crossbeam_queue.specs.declared.array_queue.Doing.{Doing}
use Rattle.crossbeam_queue.specs.declared.array_queue.Slotted.{Slotted}
use Rattle.farm_live.specs.declared.post.BookOf.{BookOf}
use Rattle.farm_live.specs.declared.post.Post.{Post}
use Rattle.farm_live.specs.declared.slot.Token.{Token}
use Rattle.farm_live.specs.declared.slot.View.{View}
use Rattle.farm_live.specs.declared.turns.Posted.TheVariants as posted
use Rattle.farm_live.specs.declared.live.Seat.{Seat}
use Rattle.farm_live.specs.declared.live.Caller.{Caller}
use Rattle.farm_live.specs.declared.live.PostFault.{PostFault}
use Rattle.farm_live.specs.declared.live.PostFault.TheVariants as fault
use Rattle.farm_live.specs.Book.{of_caller}
use Rattle.farm_live.specs.Slot.{times, all_callers}
use Rattle.farm_live.specs.Turns.{IsPosted, new_view}

-- what a caller knows of a call
abbrev pub view_of : Seat → View
view_of s = view s.pass

-- the call with this index, from 0, and the room of its inbox; its number is one more
abbrev pub book_at : ℕ → ℕ → BookOf
book_at inbox k = record { call = k + 1; room = inbox }

-- the post that a caller makes next
abbrev pub next_post : ℕ → List ℕ → List ℕ → View → Post
next_post caller up pcm v = record { caller = caller; number = length (of_caller caller v.made); up = up; pcm = pcm }

-- `Ok` gives the post's number, `Full` gives the post back
abbrev pub HasAnswered : Post → View → View → Result ℕ PostFault → Type 0
HasAnswered x v w (Ok number) = IsPosted x v w posted.Did × (number ≡ x.number)
HasAnswered x v w (Err (fault.Full post)) = IsPosted x v w posted.Full × (post ≡ x)
HasAnswered x v w (Err fault.Busy) = IsPosted x v w posted.Busy

module _ {Q A : Type 0} where
  -- a caller's seat at the slot of a call, between its functions: the caller doesn't have the book in hand, its number
  -- is one of the view's, and it counts its posts
  pub record IsSeat (book : BookOf) (slot : Slotted (Option Token) (Doing Token View) Q A) (caller : ℕ) (s : Seat) : Type 0 where
    pub pass : IsPassOf slot s.pass
    pub capacity : ruled_capacity slot ≡ 1
    pub free : (view_of s).holds ≡ false
    pub mine : 0 < times caller (view_of s).callers
    pub is_of : (view_of s).is_of ≡ book
    pub posted : s.posted ≡ length (of_caller caller (view_of s).made)

  -- a caller with these seats is of the farm with these slots: it has one at each
  pub record AreSeats (inbox : ℕ) (slots : List (Slotted (Option Token) (Doing Token View) Q A)) (caller : ℕ) (seats : List Seat) : Type 0 where
    pub one_each : length seats ≡ length slots
    pub each : (k : ℕ) (slot : Slotted (Option Token) (Doing Token View) Q A) (s : Seat) → k < length slots →
        IsSeat (book_at inbox k) (slice_index_or slots k slot) caller (slice_index_or seats k s)

  abbrev pub IsSeated : ℕ → List (Slotted (Option Token) (Doing Token View) Q A) → Caller → Type 0
  IsSeated inbox slots c = AreSeats inbox slots c.number c.seats.items

-- the call exists
abbrev pub IsCallOf : {X : Type 0} → List X → ℕ → Type 0
IsCallOf slots call = (1 ≤ call) × (call ≤ length slots)

-- P holds of what a caller knew of the call and of what it knows now; of each other call it knows the same as before
pub record Turns (P : View → View → Type 0) (call : ℕ) (old new : Caller) : Type 0 where
  pub number : new.number ≡ old.number
  pub this : (s : Seat) → P (view_of (slice_index_or old.seats.items (call - 1) s)) (view_of (slice_index_or new.seats.items (call - 1) s))
  pub others : (k : ℕ) (s : Seat) → k ≢ call - 1 → slice_index_or new.seats.items k s ≡ slice_index_or old.seats.items k s

-- ---- a new farm

-- each caller has its own number, and the last one all that remain
abbrev pub numbers_of : ℕ → ℕ → List ℕ
numbers_of callers i = if i + 1 == callers then drop i all_callers else take 1 (drop i all_callers)

module _ {Q A : Type 0} where
  -- a seat at a new call, of a caller with these numbers: it saw the empty book, and posted nothing
  pub record IsNewSeat (callers : List ℕ) (book : BookOf) (slot : Slotted (Option Token) (Doing Token View) Q A) (s : Seat) : Type 0 where
    pub pass : IsPassOf slot s.pass
    pub capacity : ruled_capacity slot ≡ 1
    pub view : view_of s ≡ new_view callers book
    pub posted : s.posted ≡ 0

  -- seats at the first calls, of a caller with these numbers
  abbrev pub AreNew : List ℕ → ℕ → List (Slotted (Option Token) (Doing Token View) Q A) → List Seat → Type 0
  AreNew callers inbox slots seats = (k : ℕ) (slot : Slotted (Option Token) (Doing Token View) Q A) (s : Seat) → k < length seats →
      IsNewSeat callers (book_at inbox k) (slice_index_or slots k slot) (slice_index_or seats k s)

  -- such seats, one at each call
  abbrev pub IsNewRow : List ℕ → ℕ → List (Slotted (Option Token) (Doing Token View) Q A) → List Seat → Type 0
  IsNewRow callers inbox slots seats = (length seats ≡ length slots) × AreNew callers inbox slots seats

  -- The caller with this number has a seat at each call. It saw the empty book, and posted nothing.
  pub record IsNewCaller (inbox callers i : ℕ) (slots : List (Slotted (Option Token) (Doing Token View) Q A)) (c : Caller) : Type 0 where
    pub number : c.number ≡ i
    pub seats : IsNewRow (numbers_of callers i) inbox slots c.seats.items
    pub seated : IsSeated inbox slots c

  -- these are all callers of a new farm
  pub record AreCallers (inbox callers : ℕ) (slots : List (Slotted (Option Token) (Doing Token View) Q A)) (cs : List Caller) : Type 0 where
    pub count : length cs ≡ callers
    pub each : (i : ℕ) (c : Caller) → i < callers → IsNewCaller inbox callers i slots (slice_index_or cs i c)
