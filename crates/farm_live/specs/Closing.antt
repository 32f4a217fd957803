-- The end of a farm.
use Rattle.std.specs.Prelude.{◌≡◌, ℕ, ◌+◌, ◌<◌, ◌≤◌, false, Option, List, ◌++◌, length, take, drop, map, All, slice_index_or}
use Rattle.std.specs.List.{flat_map}
use Rattle.crossbeam_queue.specs.Passes.{IsPassOf, ruled_capacity}
use Rattle.crossbeam_queue.specs.declared.array_queue.Doing.{Doing}
use Rattle.crossbeam_queue.specs.declared.array_queue.Slotted.{Slotted}
use Rattle.farm_live.specs.declared.post.BookOf.{BookOf}
use Rattle.farm_live.specs.declared.slot.Token.{Token}
use Rattle.farm_live.specs.declared.slot.View.{View}
use Rattle.farm_live.specs.declared.live.Seat.{Seat}
use Rattle.farm_live.specs.declared.live.Caller.{Caller}
use Rattle.farm_live.specs.declared.live.Closed.{Closed}
use Rattle.farm_live.specs.Book.{BookState, IsLegal}
use Rattle.farm_live.specs.Slot.{times}
use Rattle.farm_live.specs.Turns.{Closes}
use Rattle.farm_live.specs.Live.{view_of, book_at, IsSeated}

-- a caller's view of the call with index k, and below the views of several callers
abbrev pub view_at : ℕ → Caller → List View
view_at k c = map view_of (take 1 (drop k c.seats.items))

abbrev pub views_at : ℕ → List Caller → List View
views_at k cs = flat_map (view_at k) cs

-- a view that has all that these views have
pub record HasAll (vs : List View) (v : View) : Type 0 where
  pub made : v.made ≡ flat_map (λ u. u.made) vs
  pub seen : v.seen ≡ flat_map (λ u. u.seen) vs
  pub callers : v.callers ≡ flat_map (λ u. u.callers) vs

module _ {Q A : Type 0} where
  pub record IsJoined (book : BookOf) (slot : Slotted (Option Token) (Doing Token View) Q A) (vs : List View) (s : Seat) : Type 0 where
    pub pass : IsPassOf slot s.pass
    pub capacity : ruled_capacity slot ≡ 1
    pub free : (view_of s).holds ≡ false
    pub is_of : (view_of s).is_of ≡ book
    pub all : HasAll vs (view_of s)
    pub some : (c : ℕ) × (0 < times c (view_of s).callers)

  -- at each call one seat has what all these callers know
  pub record AreJoined (inbox : ℕ) (slots : List (Slotted (Option Token) (Doing Token View) Q A)) (cs : List Caller) (seats : List Seat) : Type 0 where
    pub one_each : length seats ≡ length slots
    pub each : (k : ℕ) (slot : Slotted (Option Token) (Doing Token View) Q A) (s : Seat) → k < length slots →
        IsJoined (book_at inbox k) (slice_index_or slots k slot) (views_at k cs) (slice_index_or seats k s)

  -- all these callers are of the farm
  abbrev pub AreAllSeated : ℕ → List (Slotted (Option Token) (Doing Token View) Q A) → List Caller → Type 0
  AreAllSeated inbox slots cs = All (IsSeated inbox slots) cs

  -- the first n seats aren't joined with those of one more caller yet, and the others are
  pub record AreHalfJoined (inbox : ℕ) (slots : List (Slotted (Option Token) (Doing Token View) Q A)) (cs : List Caller) (c : Caller) (n : ℕ)
      (seats : List Seat) : Type 0 where
    pub one_each : length seats ≡ length slots
    pub done : (k : ℕ) (slot : Slotted (Option Token) (Doing Token View) Q A) (s : Seat) → n ≤ k → k < length slots →
        IsJoined (book_at inbox k) (slice_index_or slots k slot) (views_at k cs ++ view_at k c) (slice_index_or seats k s)
    pub left : (k : ℕ) (slot : Slotted (Option Token) (Doing Token View) Q A) (s : Seat) → k < n → k < length slots →
        IsJoined (book_at inbox k) (slice_index_or slots k slot) (views_at k cs) (slice_index_or seats k s)

-- the closed call's entries and remaining posts are those of a book that a caller with this view took for good
abbrev pub IsClosedAs : ℕ → View → Closed → Type 0
IsClosedAs call v d = (b : BookState) × Closes v b × (d.call ≡ call) × (d.entries.items ≡ b.history) × (d.left.items ≡ b.inbox)

-- this call was closed with what these views know, and its history is legal
abbrev pub IsClosedBy : ℕ → List View → Closed → Type 0
IsClosedBy call vs d = (v : View) × HasAll vs v × IsClosedAs call v d × IsLegal call d.entries.items

-- the first calls were closed, each with what all these callers know of it
abbrev pub AreClosedTo : List Caller → List Closed → Type 0
AreClosedTo cs ds = (k : ℕ) (d : Closed) → k < length ds → IsClosedBy (k + 1) (views_at k cs) (slice_index_or ds k d)

-- all calls were closed
abbrev pub AreClosed : ℕ → List Caller → List Closed → Type 0
AreClosed n cs ds = (length ds ≡ n) × AreClosedTo cs ds
