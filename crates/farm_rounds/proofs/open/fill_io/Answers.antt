use Rattle.std.proofs.Common.{◌≡◌, ap, ◌∙◌, sym, subst, List, ℕ, length}
use Rattle.std.proofs.lemmas.List.{with_items_is}
use Rattle.std.specs.Vec.{with_items}
use Rattle.trau_io.specs.declared.line.Side.{Side}
use Rattle.trau_io.specs.Lines.{LineState}
use Rattle.call_pair.specs.Memory.{IoMemory, HaveRoom}
use Rattle.call_pair.specs.contracts.io.LegIo.{the_view}
use Rattle.round_lines.specs.Memory.{LinesMemory}
use Rattle.round_lines.specs.Portions.{Fills, portion_from}
use Rattle.farm_rounds.specs.Opens.{portion_with}
use Rattle.farm_rounds.proofs.open.fill_io.Goals as goal

-- what was read, in the buffers where they are
fills_read : (a b : Side → LineState) (p q : LinesMemory) (io jo : IoMemory) (up pcm up' pcm' : List ℕ) → up ≡ io.up → pcm ≡ io.pcm →
    jo ≡ record io { up = up'; pcm = pcm' } → Fills a b (portion_from p up pcm io.down io.out) (portion_from q up' pcm' io.down io.out) →
    Fills a b (portion_with p io) (portion_with q jo)
fills_read a b p q io jo up pcm up' pcm' eu ep e f =
    subst (λ (j : IoMemory). Fills a b (portion_with p io) (portion_with q j)) (sym e)
    (subst (λ (us : List ℕ). Fills a b (portion_from p us io.pcm io.down io.out) (portion_from q up' pcm' io.down io.out)) eu
    (subst (λ (ps : List ℕ). Fills a b (portion_from p up ps io.down io.out) (portion_from q up' pcm' io.down io.out)) ep f))

-- buffers of the same lengths have the same room
same_room : (up pcm up' pcm' out down : List ℕ) (given : ℕ) → length up' ≡ length up → length pcm' ≡ length pcm → HaveRoom up pcm out down given →
    HaveRoom up' pcm' out down given
same_room up pcm up' pcm' out down given eu ep r = record {
  periods = r.periods;
  enough = r.enough;
  up_room = eu ∙ r.up_room;
  pcm_room = ep ∙ r.pcm_room;
  out_room = r.out_room;
  down_room = r.down_room;
}

pub invariant_of-io : goal.invariant_of-io
invariant_of-io g c =
    let i = c.io.inside in
    let read_up = with_items_is i.up c.fill.new.up (c.fill.auto.up ∙ c.deref_mut.ensures.len) in
    let read_pcm = with_items_is i.pcm c.fill.new.pcm (c.fill.auto.pcm ∙ c.deref_mut-2.ensures.len) in
    record {
      number = c.io.invariant.number;
      room = same_room i.up.items i.pcm.items _ _ i.out.items i.down.items i.given
          (ap length read_up ∙ c.fill.auto.up ∙ ap length c.deref_mut.ensures.value)
          (ap length read_pcm ∙ c.fill.auto.pcm ∙ ap length c.deref_mut-2.ensures.value) c.io.invariant.room;
      within = c.io.invariant.within;
    }

pub returns-clause-fills : goal.returns-clause-fills
returns-clause-fills g c =
    let io = c.args.io.now in
    let was = the_view c.io.inside in
    let up = c.fill.new.up in
    let pcm = c.fill.new.pcm in
    let read_up = with_items_is c.io.inside.up up (c.fill.auto.up ∙ c.deref_mut.ensures.len) in
    let read_pcm = with_items_is c.io.inside.pcm pcm (c.fill.auto.pcm ∙ c.deref_mut-2.ensures.len) in
    fills_read (g.T.Trunk.lines c.args.trunk.now c.args.lines.now.call) (g.T.Trunk.lines c.fill.new.trunk c.args.lines.now.call) _ _ io _ _ _ up pcm
    (c.deref_mut.ensures.value ∙ ap (λ (i : IoMemory). i.up) c.io.view_is) (c.deref_mut-2.ensures.value ∙ ap (λ (i : IoMemory). i.pcm) c.io.view_is)
    (ap (λ (us : List ℕ). record was { up = us; pcm = (with_items c.io.inside.pcm pcm).items }) read_up ∙ ap (λ (ps : List ℕ). record was { up = up; pcm = ps }) read_pcm
    ∙ ap (λ (i : IoMemory). record i { up = up; pcm = pcm }) c.io.view_is)
    (c.fill.ensures.fills io.down io.out)
