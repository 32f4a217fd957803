-- A run from clock to clock, and from its start.
use Rattle.std.proofs.Common.{◌≡◌, refl, sym, ap, ◌∙◌, subst, ℕ, ◌≤◌, true, false, List, arith}
use Rattle.trau_io.specs.declared.line.Line.{Line}
use Rattle.trau_io.specs.declared.line.Side.{Side}
use Rattle.trau_io.specs.Lines.{LineState}
use Rattle.trau_orders.specs.declared.order.Order.{Order}
use Rattle.switchboard.specs.State.{orders_of}
use Rattle.run_spec.specs.Run.{Run}
use Rattle.farm_run.specs.declared.outgoing.Outgoing.{Outgoing}
use Rattle.farm_run.specs.declared.stage.Stage.{Stage}
use Rattle.farm_run.specs.Noted.{IsKnown}
use Rattle.farm_run.specs.Outgoing.{is_held, is_summed, sum_to}
use Rattle.farm_run.specs.Runs.{TellsFailed, KeepsSides, ReadsOn, IsRunOver, FailedBy, ReadBy, is_listed}
use Rattle.farm_run.specs.Stages.{IsStage, IsFirstStage, Reaches, SumsAt}
use Rattle.farm_run.specs.Standing.{Standing, standing, StandingGoesOn}
use Rattle.farm_run.specs.Clock.{NeverFell, IsAtClock, WrittenFrom}
use Rattle.farm_run.proofs.Clocks.First.{fell_none, tells_none, at_first, written_first, flags_of}
use Rattle.farm_run.proofs.Listed.Counts.{fell_more}
use Rattle.farm_run.proofs.Noted.Knowing.{known_start}
use Rattle.farm_run.proofs.Clocks.Meeting.{stays, further, reads_more}
use Rattle.farm_run.proofs.Worked.Short.{short_none}
use Rattle.farm_run.proofs.Lines.Sides.{sides_none, sides_more}
use Rattle.farm_run.proofs.Listed.Counts.{unused_none, unused_more}
use Rattle.farm_run.proofs.Clocks.Summing.{sums_first}

-- ---- one part after another

-- **Nothing has happened.**
pub reaches_none : (batch : ℕ) (s : Stage) (lines : ℕ → Side → LineState) → IsStage s → Reaches batch s s lines lines
reaches_none batch s lines stage = record {
  later = omega arith;
  stage = stage;
  kept = refl;
  way = record { held = refl; summed = refl };
  openings = λ n l openings. openings;
  fell = fell_none lines;
  failed = λ first fell failed. failed;
  sides = sides_none lines;
  goes = stays (standing s.board s.farm.failed lines);
  back = λ held. record { lines = λ c side o. refl; listed = λ c side o. refl };
  unused = unused_none (is_listed s.farm.failed) lines;
  run = λ r first last flags within on at. at;
  known = λ r first last flags within on at known. known;
  wrote = λ held from l r first last flags within on at wrote. wrote;
  sums = λ summed r first last flags within on at sums. sums;
  short = λ r first last flags within on at short. short;
  read_past = λ r first last flags within on at read. read;
}

-- **Two parts are one.**
pub reaches_more : (batch : ℕ) (s u v : Stage) (before between now : ℕ → Side → LineState) →
    Reaches batch s u before between → Reaches batch u v between now →
    Reaches batch s v before now
reaches_more batch s u v before between now g h = record {
  later = (let a = g.later in let b = h.later in omega arith);
  stage = h.stage;
  kept = h.kept ∙ g.kept;
  way = record { held = h.way.held ∙ g.way.held; summed = h.way.summed ∙ g.way.summed };
  openings = λ n l openings. h.openings n l (g.openings n (let b = h.later in omega arith) openings);
  fell = fell_more before between now g.fell h.fell;
  failed = λ first fell failed. h.failed first (fell_more first before between fell g.fell) (g.failed first fell failed);
  sides = sides_more before between now g.sides h.sides;
  goes = further _ _ _ g.goes h.goes;
  back = λ held.
      let a = g.back held in
      let b = h.back (g.way.held ∙ held) in
      record { lines = λ c side o. b.lines c side o ∙ a.lines c side o; listed = λ c side o. b.listed c side o ∙ a.listed c side o };
  unused = unused_more _ _ _ before between now g.unused h.unused;
  run = λ r first last flags within on at. h.run r first last flags within on (g.run r first last flags (less r within) (further _ _ _ h.goes on) at);
  known = λ r first last flags within on at known.
      h.known r first last flags within on (g.run r first last flags (less r within) (further _ _ _ h.goes on) at)
      (g.known r first last flags (less r within) (further _ _ _ h.goes on) at known);
  wrote = λ held from l r first last flags within on at wrote.
      h.wrote (g.way.held ∙ held) from (let a = g.later in omega arith) r first last flags within on
      (g.run r first last flags (less r within) (further _ _ _ h.goes on) at)
      (g.wrote held from l r first last flags (less r within) (further _ _ _ h.goes on) at wrote);
  sums = λ summed r first last flags within on at sums.
      h.sums (g.way.summed ∙ summed) r first last flags within on (g.run r first last flags (less r within) (further _ _ _ h.goes on) at)
      (g.sums summed r first last flags (less r within) (further _ _ _ h.goes on) at sums);
  short = λ r first last flags within on at short.
      h.short r first last flags within on (g.run r first last flags (less r within) (further _ _ _ h.goes on) at)
      (g.short r first last flags (less r within) (further _ _ _ h.goes on) at short);
  read_past = λ r first last flags within on at read.
      h.read_past r first last flags within on (g.run r first last flags (less r within) (further _ _ _ h.goes on) at)
      (g.read_past r first last flags (less r within) (further _ _ _ h.goes on) at read);
}
  where
    less : (r : Run) → v.clock ≤ r.periods → u.clock ≤ r.periods
    less r l = let b = h.later in omega arith

-- ---- from the start

-- What is known of a run of these orders that got this far: `first` are the lines before it, `now` those here.
pub record GoneTo (orders : List Order) (batch : ℕ) (first now : ℕ → Side → LineState) (u : Stage) : Type 0 where
  pub stage : IsStage u
  pub kept : orders_of u.board ≡ orders
  pub fell : NeverFell first now
  pub tells : TellsFailed first now u.farm.failed
  pub sides : KeepsSides first now
  pub reads : ReadsOn first now
  pub at : (r : Run) (last : Standing) → IsRunOver orders r.periods last.listed first last.lines r → u.clock ≤ r.periods →
      StandingGoesOn (standing u.board u.farm.failed now) last → IsAtClock r u.clock u.board u.farm.calls last first now
  pub known : (r : Run) (last : Standing) → IsRunOver orders r.periods last.listed first last.lines r → u.clock ≤ r.periods →
      StandingGoesOn (standing u.board u.farm.failed now) last → IsKnown r u.clock u.board u.farm.tallies u.notes
  pub short : (r : Run) (last : Standing) → IsRunOver orders r.periods last.listed first last.lines r → u.clock ≤ r.periods →
      StandingGoesOn (standing u.board u.farm.failed now) last → FailedBy r batch u.clock (is_listed u.farm.failed)
  pub read_past : (r : Run) (last : Standing) → IsRunOver orders r.periods last.listed first last.lines r → u.clock ≤ r.periods →
      StandingGoesOn (standing u.board u.farm.failed now) last → ReadBy r batch u.clock last.listed now

-- the run's clock is 0 before its first order
at_start : (orders : List Order) (o : Outgoing) (s : Stage) (lines : ℕ → Side → LineState) (r : Run)
    (last : Standing) → IsFirstStage orders o s →
    IsRunOver orders r.periods last.listed lines last.lines r → IsAtClock r s.clock s.board s.farm.calls last lines lines
at_start orders o s lines r last f run =
    let clock = (let k = f.stage in k.clock) in
    subst (λ (t : ℕ). IsAtClock r t s.board s.farm.calls last lines lines) (sym f.clock)
    (at_first r s.board s.farm.calls r.periods lines last clock.orders f.none_done f.histories
    (subst (λ (os : List Order). IsRunOver os r.periods last.listed lines last.lines r) (sym f.orders) run))

-- **It begins.**
pub gone_first : (orders : List Order) (batch : ℕ) (o : Outgoing) (s : Stage) (lines : ℕ → Side → LineState) → IsFirstStage orders o s →
    GoneTo orders batch lines lines s
gone_first orders batch o s lines f = record {
  stage = f.stage;
  kept = f.orders;
  fell = fell_none lines;
  tells = subst (λ (ls : List Line). TellsFailed lines lines ls) (sym f.none_failed) (tells_none lines);
  sides = sides_none lines;
  reads = λ d side octets i e. (0, e);
  at = λ r last run within on. at_start orders o s lines r last f run;
  known = λ r last run within on.
      subst (λ (t : ℕ). IsKnown r t s.board s.farm.tallies s.notes) (sym f.clock)
      (known_start r s.board s.farm.tallies s.notes f.untold f.none_done f.none_noted);
  short = λ r last run within on. subst (λ (ls : List Line). FailedBy r batch s.clock (is_listed ls)) (sym f.none_failed) (short_none r batch s.clock);
  read_past = λ r last run within on c i ended not. absurd (omega (arith, ended, f.clock));
}

-- **It goes on.**
pub gone_more : (orders : List Order) (batch : ℕ) (first before now : ℕ → Side → LineState)
    (s u : Stage) → GoneTo orders batch first before s →
    Reaches batch s u before now → GoneTo orders batch first now u
gone_more orders batch first before now s u g h = record {
  stage = h.stage;
  kept = h.kept ∙ g.kept;
  fell = fell_more first before now g.fell h.fell;
  tells = h.failed first g.fell g.tells;
  sides = sides_more first before now g.sides h.sides;
  reads = reads_more first before now g.reads h.goes.read_on;
  at = λ r last run within on. h.run r first last (flags_of r orders r.periods first last run) within on (at r last run within on);
  known = λ r last run within on. h.known r first last (flags_of r orders r.periods first last run) within on (at r last run within on)
      (g.known r last run (less r within) (further _ _ _ h.goes on));
  short = λ r last run within on. h.short r first last (flags_of r orders r.periods first last run) within on (at r last run within on)
      (g.short r last run (less r within) (further _ _ _ h.goes on));
  read_past = λ r last run within on. h.read_past r first last (flags_of r orders r.periods first last run) within on (at r last run within on)
      (g.read_past r last run (less r within) (further _ _ _ h.goes on));
}
  where
    less : (r : Run) → u.clock ≤ r.periods → s.clock ≤ r.periods
    less r l = let b = h.later in omega arith

    at : (r : Run) (last : Standing) → IsRunOver orders r.periods last.listed first last.lines r → u.clock ≤ r.periods →
        StandingGoesOn (standing u.board u.farm.failed now) last → IsAtClock r s.clock s.board s.farm.calls last first before
    at r last run within on = g.at r last run (less r within) (further _ _ _ h.goes on)

-- **From its start on all is written, where nothing is held back.**
pub wrote_first : (orders : List Order) (batch : ℕ) (o : Outgoing) (s u : Stage)
    (first now : ℕ → Side → LineState) → IsFirstStage orders o s →
    is_held o ≡ false → Reaches batch s u first now →
    (r : Run) (last : Standing) → IsRunOver orders r.periods last.listed first last.lines r → u.clock ≤ r.periods →
    StandingGoesOn (standing u.board u.farm.failed now) last → WrittenFrom r 0 u.clock (is_listed u.farm.failed) first now
wrote_first orders batch o s u first now f written h r last run within on =
    h.wrote (ap is_held f.way ∙ written) 0 (omega arith) r first last (flags_of r orders r.periods first last run) within on
    (at_start orders o s first r last f run)
    (subst (λ (t : ℕ). WrittenFrom r 0 t (is_listed s.farm.failed) first first) (sym f.clock)
    (subst (λ (ls : List Line). WrittenFrom r 0 0 (is_listed ls) first first) (sym f.none_failed) (written_first r 0 first)))

-- **The sums are those of all octets, where there are sums.**
pub summed_first : (orders : List Order) (batch : ℕ) (o : Outgoing) (s u : Stage)
    (first now : ℕ → Side → LineState) → IsFirstStage orders o s →
    is_summed o ≡ true → ((c : ℕ) (side : Side) → sum_to o c side ≡ 0) → Reaches batch s u first now →
    (r : Run) (last : Standing) → IsRunOver orders r.periods last.listed first last.lines r → u.clock ≤ r.periods →
    StandingGoesOn (standing u.board u.farm.failed now) last → SumsAt r u.clock (sum_to u.outgoing)
summed_first orders batch o s u first now f summed none h r last run within on =
    h.sums (ap is_summed f.way ∙ summed) r first last (flags_of r orders r.periods first last run) within on (at_start orders o s first r last f run)
    (subst (λ (t : ℕ). SumsAt r t (sum_to s.outgoing)) (sym f.clock)
    (subst (λ (x : Outgoing). SumsAt r 0 (sum_to x)) (sym f.way) (sums_first r (sum_to o) none)))
