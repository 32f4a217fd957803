-- The callers of a live drill before and after their threads.
use Rattle.std.specs.Prelude.{◌≡◌, ℕ, ◌<◌, false, IsTrue, Option, List, length, slice_index_or}
use Rattle.crossbeam_queue.specs.declared.array_queue.Doing.{Doing}
use Rattle.crossbeam_queue.specs.declared.array_queue.Slotted.{Slotted}
use Rattle.farm_live.specs.declared.slot.Token.{Token}
use Rattle.farm_live.specs.declared.slot.View.{View}
use Rattle.farm_live.specs.declared.live.Caller.{Caller}
use Rattle.farm_live.specs.Live.{IsSeated}
use Rattle.live_run.specs.declared.size.LiveDrill.{LiveDrill}
use Rattle.live_run.specs.declared.posters.Poster.{Poster}
use Rattle.live_run.specs.Posts.{HasPosted}

-- a caller before its thread
abbrev pub poster_of : Caller → Poster
poster_of c = record { caller = c; done = false }

module _ {Q A : Type 0} where
  -- the caller with this number, which has posted nothing yet
  pub record IsReady (d : LiveDrill) (inbox : ℕ)
      (slots : List (Slotted (Option Token) (Doing Token View) Q A))
      (i : ℕ) (p : Poster) : Type 0 where
    pub seated : IsSeated inbox slots p.caller
    pub posted : HasPosted d.seed d.calls d.callers 0 i p.caller

  -- its thread has ended; if it is done, it has posted all periods of each of its calls
  pub record HasEnded (d : LiveDrill) (inbox : ℕ)
      (slots : List (Slotted (Option Token) (Doing Token View) Q A))
      (i : ℕ) (p : Poster) : Type 0 where
    pub seated : IsSeated inbox slots p.caller
    pub posted : IsTrue p.done → HasPosted d.seed d.calls d.callers d.periods i p.caller

  -- a poster that was ready before its thread has ended after it
  pub record Ends (d : LiveDrill) (inbox : ℕ)
      (slots : List (Slotted (Option Token) (Doing Token View) Q A))
      (old new : Poster) : Type 0 where
    pub each : (i : ℕ) → IsReady d inbox slots i old → HasEnded d inbox slots i new

  -- these are all callers, and each has posted n periods of each of its calls
  pub record HavePosted (d : LiveDrill) (n inbox : ℕ)
      (slots : List (Slotted (Option Token) (Doing Token View) Q A))
      (cs : List Caller) : Type 0 where
    pub count : length cs ≡ d.callers
    pub seated : (i : ℕ) (c : Caller) → i < d.callers → IsSeated inbox slots (slice_index_or cs i c)
    pub each : (i : ℕ) (c : Caller) → i < d.callers →
        HasPosted d.seed d.calls d.callers n i (slice_index_or cs i c)
