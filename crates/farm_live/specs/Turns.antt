-- What a caller's function does with the slot of a call: v is the caller's view before it, w the one after it.
use Rattle.std.specs.Prelude.{◌≡◌, ℕ, ◌+◌, ◌*◌, ◌<◌, ◌≤◌, false, Some, None, find, List, [], ◌∷◌, ◌++◌, length, Result, Ok, Err}
use Rattle.farm_live.specs.declared.post.BookOf.{BookOf}
use Rattle.farm_live.specs.declared.post.Post.{Post}
use Rattle.farm_live.specs.declared.post.Entry.{Entry}
use Rattle.farm_live.specs.declared.slot.View.{View}
use Rattle.farm_live.specs.declared.turns.Posted.{Posted}
use Rattle.farm_live.specs.declared.turns.Posted.TheVariants as posted
use Rattle.farm_live.specs.declared.turns.Turn.{Turn}
use Rattle.farm_live.specs.declared.turns.Turn.TheVariants as turn
use Rattle.farm_live.specs.declared.turns.Look.{Look}
use Rattle.farm_live.specs.declared.turns.Look.TheVariants as look
use Rattle.farm_live.specs.Book.{BookState, no_book, empty_book, record_of, of_caller, NumberedFrom, IsLegal, with_post, Worked, is_of_post, most_posts}
use Rattle.farm_live.specs.Slot.{AllSeen, own_posts, times, all_callers, number_of_callers, HasMissed}

-- The book was taken once. It begins with all that was seen of it, its history is legal, each caller's posts in it are
-- numbered in order, and the posts of this view's callers are those that they made.
pub record Held (v w : View) : Type 0 where
  pub takings : w.takings ≡ v.takings + 1
  pub misses : w.misses ≡ v.misses
  pub callers : w.callers ≡ v.callers
  pub is_of : w.taken.is_of ≡ v.is_of
  pub begins : AllSeen w.taken v.seen
  pub legal : IsLegal w.taken.is_of.call w.taken.history
  pub numbered : (c : ℕ) → NumberedFrom 0 (of_caller c (record_of w.taken))
  pub made : (c : ℕ) → of_caller c v.made ≡ own_posts (times c v.callers) (of_caller c (record_of w.taken))
  pub few : length (record_of w.taken) ≤ most_posts
  pub mine : length v.made ≤ 16777216 * number_of_callers v

-- The book was taken and given back as `back`, with these additional posts.
pub record Turned (v w : View) (back : BookState) (more : List Post) : Type 0 where
  pub took : Held v w
  pub free : w.holds ≡ false
  pub is_of : w.is_of ≡ v.is_of
  pub seen : w.seen ≡ back ∷ []
  pub made : w.made ≡ v.made ++ more

-- The book was taken and given back as it was.
abbrev pub Looked : View → View → Type 0
Looked v w = Turned v w w.taken []

-- The post is at the back of the inbox, unless that is full. If another caller has the book in hand, the call is busy,
-- and only the count of misses changes.
abbrev pub IsPosted : Post → View → View → Posted → Type 0
IsPosted x v w posted.Did = Turned v w (with_post w.taken x) (x ∷ []) × (length w.taken.inbox < v.is_of.room)
IsPosted x v w posted.Full = Looked v w × (length w.taken.inbox ≡ v.is_of.room)
IsPosted x v w posted.Busy = HasMissed v w

-- The first post of the inbox was processed, and its entry is added at the end of the history.
pub record HasWorkedPost (v w : View) (e : Entry) : Type 0 where
  pub back : BookState
  pub worked : Worked w.taken e back
  pub legal : IsLegal back.is_of.call back.history
  pub turned : Turned v w back []

abbrev pub HasTurned : {E : Type 0} → View → View → Result Turn E → Type 0
HasTurned v w (Ok (turn.Did caller number place)) =
    (e : Entry) × HasWorkedPost v w e × (caller ≡ e.post.caller) × (number ≡ e.post.number) × (place ≡ length w.taken.history)
HasTurned v w (Ok turn.Idle) = Looked v w × (w.taken.inbox ≡ [])
HasTurned v w (Ok turn.Busy) = HasMissed v w
HasTurned v w (Err _) = Looked v w

-- The history as taken has this entry of the post, or none.
abbrev pub HasLooked : ℕ → ℕ → View → View → Look → Type 0
HasLooked of number v w (look.Found e) = Looked v w × (find (is_of_post of number) w.taken.history ≡ Some e)
HasLooked of number v w look.NotYet = Looked v w × (find (is_of_post of number) w.taken.history ≡ None)
HasLooked of number v w look.Busy = HasMissed v w

-- the view of these callers at a new call, whose empty book is in the slot
abbrev pub new_view : List ℕ → BookOf → View
new_view callers is_of = record {
  callers = callers;
  is_of = is_of;
  holds = false;
  taken = no_book;
  seen = empty_book is_of ∷ [];
  made = [];
  takings = 0;
  misses = 0;
}

-- What a view that takes the book for good knows of it.
pub record Closes (v : View) (b : BookState) : Type 0 where
  pub legal : IsLegal b.is_of.call b.history
  pub begins : AllSeen b v.seen
  pub numbered : (c : ℕ) → NumberedFrom 0 (of_caller c (record_of b))
  pub made : (c : ℕ) → of_caller c v.made ≡ own_posts (times c v.callers) (of_caller c (record_of b))
  pub known : (c : ℕ) → times c all_callers ≡ 0 → of_caller c (record_of b) ≡ []
  pub is_of : (c : ℕ) → 0 < times c v.callers → v.is_of ≡ b.is_of
