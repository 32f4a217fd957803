use Rattle.std.proofs.Common.{ap, ◌∙◌, List, ℕ, ◌*◌, take, drop}
use Rattle.call_pair.specs.Memory.{IoMemory}
use Rattle.call_pair.specs.Periods.{up_at}
use Rattle.call_pair.proofs.Lent.{lent_from}
use Rattle.call_pair.proofs.io.LegIo.up_next.Goals as goal

pub returns : goal.returns
returns c =
    lent_from 40 _ (40 * c.self.inside.done) c.deref.result.now c.first_chunk.result c.unwrap.result c.unwrap.ensures c.first_chunk.ensures.cases
    ∙ ap (λ (xs : List ℕ). take 40 (drop (40 * c.self.inside.done) xs)) c.deref.ensures.value ∙ ap (λ (io : IoMemory). up_at io.done io) c.self.view_is
