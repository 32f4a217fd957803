-- What the callers of a live drill post, and what they know of it (this project's profile). Calls are named by their
-- index, from 0: the call's number is one more.
use Rattle.std.specs.Prelude.{◌≡◌, ◌≢◌, ℕ, ◌+◌, ◌%◌, ◌<◌, ◌==◌, if◌then◌else◌, Some, find, List, [], ◌∷◌, ◌++◌, length, map, slice_index_or}
use Rattle.std.specs.List.{range_with_len}
use Rattle.farm_drill.specs.Draws.{draw_state, first_draw}
use Rattle.farm_drill.specs.Uplink.{up_octets}
use Rattle.farm_drill.specs.Lines.{pcm_octets}
use Rattle.farm_drill.specs.declared.draws.Generator.{Generator}
use Rattle.farm_live.specs.declared.post.Post.{Post}
use Rattle.farm_live.specs.declared.post.Entry.{Entry}
use Rattle.farm_live.specs.declared.slot.View.{View}
use Rattle.farm_live.specs.declared.live.Seat.{Seat}
use Rattle.farm_live.specs.declared.live.Caller.{Caller}
use Rattle.farm_live.specs.Book.{BookState, is_of_post}
use Rattle.farm_live.specs.Live.{view_of, numbers_of}

-- a caller's post of period n of the call with this number
abbrev pub drawn_post : ℕ → ℕ → ℕ → ℕ → Post
drawn_post seed caller call n = record {
  caller = caller;
  number = n;
  up = up_octets seed call n;
  pcm = pcm_octets seed call n;
}

-- the posts of its first n periods
unfoldable pub drawn_posts : ℕ → ℕ → ℕ → ℕ → List Post
drawn_posts seed caller call n = map (drawn_post seed caller call) (range_with_len 0 n)

-- how many of the first n periods of a call a caller posts: all, if the call is one of its own, else none
abbrev pub own_of : ℕ → ℕ → ℕ → ℕ → ℕ
own_of callers caller k n = if k % callers == caller then n else 0

-- what a caller knows of a call after n of its periods: the posts that it made, and whose view it is
pub record Knows (seed callers caller k n : ℕ) (v : View) : Type 0 where
  pub made : v.made ≡ drawn_posts seed caller (k + 1) (own_of callers caller k n)
  pub numbers : v.callers ≡ numbers_of callers caller

-- of the first n periods of a call, the generator has made the draws of those that the caller posts
abbrev pub IsDrawn : ℕ → ℕ → ℕ → ℕ → ℕ → Generator → Type 0
IsDrawn seed callers caller k n g =
    g.x ≡ draw_state seed (k + 1) (first_draw (own_of callers caller k n))

-- no post was made
pub record KeepsPosts (v w : View) : Type 0 where
  pub made : w.made ≡ v.made
  pub callers : w.callers ≡ v.callers

-- one more post was made
pub record GainsPost (x : Post) (v w : View) : Type 0 where
  pub made : w.made ≡ v.made ++ x ∷ []
  pub callers : w.callers ≡ v.callers

-- the history that was seen last has the post with this number
abbrev pub Saw : ℕ → ℕ → View → Type 0
Saw of number v = (b : BookState) × (e : Entry) × (v.seen ≡ b ∷ [])
    × (find (is_of_post of number) b.history ≡ Some e)

-- P holds of what a caller knew of the call with this index and of what it knows now; of each other call it knows the
-- same as before
pub record MovesSeat (P : View → View → Type 0) (k : ℕ) (old new : Caller) : Type 0 where
  pub number : new.number ≡ old.number
  pub this : (s : Seat) →
      P (view_of (slice_index_or old.seats.items k s))
      (view_of (slice_index_or new.seats.items k s))
  pub others : (j : ℕ) (s : Seat) → j ≢ k →
      slice_index_or new.seats.items j s ≡ slice_index_or old.seats.items j s

-- a caller and its generators, after `behind k` periods of each call with index k
pub record IsBehind (seed calls callers caller : ℕ) (behind : ℕ → ℕ) (c : Caller)
    (gs : List Generator) : Type 0 where
  pub number : c.number ≡ caller
  pub one_each : length gs ≡ calls
  pub knows : (k : ℕ) (s : Seat) → k < calls →
      Knows seed callers caller k (behind k) (view_of (slice_index_or c.seats.items k s))
  pub draws : (k : ℕ) (g : Generator) → k < calls →
      IsDrawn seed callers caller k (behind k) (slice_index_or gs k g)

-- this is the caller with this number, and it has posted n periods of each of its calls
pub record HasPosted (seed calls callers n caller : ℕ) (c : Caller) : Type 0 where
  pub number : c.number ≡ caller
  pub each : (k : ℕ) (s : Seat) → k < calls →
      Knows seed callers caller k n (view_of (slice_index_or c.seats.items k s))

-- a caller saw the post with this number of each of the calls
abbrev pub SawAll : ℕ → ℕ → ℕ → Caller → Type 0
SawAll callers number calls c = (k : ℕ) (s : Seat) → k < calls →
    Saw (k % callers) number (view_of (slice_index_or c.seats.items k s))
