use Rattle.std.proofs.Common.{ap, ◌∙◌, List, ℕ, ◌*◌, take, drop}
use Rattle.call_pair.specs.Memory.{IoMemory}
use Rattle.call_pair.specs.Periods.{pcm_at}
use Rattle.call_pair.proofs.Lent.{lent_from}
use Rattle.call_pair.proofs.io.LegIo.pcm_next.Goals as goal

pub returns : goal.returns
returns c =
    lent_from 160 _ (160 * c.self.inside.done) c.deref.result.now c.first_chunk.result c.unwrap.result c.unwrap.ensures c.first_chunk.ensures.cases
    ∙ ap (λ (xs : List ℕ). take 160 (drop (160 * c.self.inside.done) xs)) c.deref.ensures.value ∙ ap (λ (io : IoMemory). pcm_at io.done io) c.self.view_is
