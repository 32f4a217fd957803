-- A run over one block after another.
use Rattle.std.proofs.Common.{◌≡◌, ◌≢◌, inl, inr, ℕ, ◌+◌, ◌*◌, ◌-◌, ◌^◌, ◌<◌, ◌≤◌, List, [], ◌∷◌, ◌++◌, length, All, refl, sym, ◌∙◌, ap, subst, arith}
use Rattle.std.proofs.Common.{length-append, append-nil}
use Rattle.std.specs.List.{concat}
use Rattle.std.proofs.KnownBytes.{Appends-nil, Consumes-nil}
use Rattle.std.proofs.Math.Nat.{mul-le-mul_left, mul-suc}
use Rattle.std.proofs.lemmas.List.Elements.{All-append, All-cons, All-nil}
use Rattle.trau_io.specs.Lines.{Rose}
use Rattle.trau_io.specs.Transfer.{Gives}
use Rattle.trau_io.proofs.Given.{gives_on}
use Rattle.block_lines.specs.declared.end.RunEnd.{RunEnd}
use Rattle.block_lines.specs.declared.end.RunEnd.TheVariants.{Done, Refused, ReadFailed, WriteFailed, DeskFailed}
use Rattle.block_lines.specs.Machines.{IsBlock, IsLawful, IsNext, IsRest, Machine}
use Rattle.block_lines.specs.Runs.{All_of_it, Around, EndsAt, Output, Reaches, Runs, Stays, desk_stage, line_stage, out_of, out_of_desk}
use Rattle.block_lines.specs.Step.{Goes, IsTaken, RunsTo}
use Rattle.block_lines.proofs.Blocks.{concat_push, few_with}
use Rattle.block_lines.proofs.Outputs.{blocks_less, blocks_whole, next_less, next_whole, reaches_on}

-- n blocks are taken, and all of it went out
pub record SoFar (M : Machine) (stands : List (List ℕ) → Type 0) (a b : Around) (n : ℕ) : Type 0 where
  pub blocks : List (List ℕ)
  pub now : stands blocks
  pub count : length blocks ≡ n
  pub taken : All (IsBlock M) blocks
  pub gives : Gives a.inc b.inc (concat blocks)
  pub calm : b.inc.faults ≡ a.inc.faults
  pub stays : Stays M a b
  pub lines : (j : ℕ) → j < M.shape.lines → Reaches All_of_it (out_of (a.outs j)) (out_of (b.outs j)) [] (M.made j blocks [])
  pub desk : Reaches All_of_it (out_of_desk a.desk) (out_of_desk b.desk) [] (M.printed blocks [])

-- before the first block
pub at_start : (M : Machine) (stands : List (List ℕ) → Type 0) (a : Around) → IsLawful M → stands [] → SoFar M stands a a 0
at_start M stands a law now = record {
  blocks = [];
  now = now;
  count = refl;
  taken = All-nil (IsBlock M);
  gives = record { read = Consumes-nil a.inc.to_come; written = refl; later = omega arith };
  calm = refl;
  stays = record { outs = λ j below. refl; desk = refl; read_faults = refl };
  lines = λ j below. reaches_none (out_of (a.outs j)) (M.made j [] []) (law.nothing_made j);
  desk = reaches_none (out_of_desk a.desk) (M.printed [] []) law.nothing_printed;
}
  where
    reaches_none : (o : Output) (sent : List ℕ) → sent ≡ [] → Reaches All_of_it o o [] sent
    reaches_none o sent none = subst (Reaches All_of_it o o []) (sym none) (Appends-nil o.written, refl)

-- a block, and not less
block_of : (M : Machine) (next : List ℕ) → IsNext M next → length next ≡ M.shape.octets → IsBlock M next
block_of M next (inl block) whole = block
block_of M next (inr rest) whole = absurd (omega (arith, rest.less, whole))

rest_of : (M : Machine) (next : List ℕ) → IsNext M next → length next < M.shape.octets → IsRest M next
rest_of M next (inl block) short = absurd (omega (arith, block.whole, short))
rest_of M next (inr rest) short = rest

-- less than the most blocks leave room for one
room_for : (size n part : ℕ) → n < 2 ^ 32 - 1 → part ≤ size → size * n + part ≤ size * (2 ^ 32 - 1)
room_for size n part room bound = omega (arith, bound, mul-le-mul_left {m = n + 1} {n = 2 ^ 32 - 1} size (omega (arith, room)), mul-suc size n)

module _ (M : Machine) (before after : List (List ℕ) → Type 0) (a b c : Around) (n : ℕ) (so_far : SoFar M before a b n) where
  whole_blocks : All (λ block. length block ≡ M.shape.octets) so_far.blocks
  whole_blocks = λ k d lt. (so_far.taken k d lt).whole

  stays_on : Stays M b c → Stays M a c
  stays_on more = record {
    outs = λ j below. more.outs j below ∙ so_far.stays.outs j below;
    desk = more.desk ∙ so_far.stays.desk;
    read_faults = more.read_faults ∙ so_far.stays.read_faults;
  }

  -- one block more
  pub taken : (end : RunEnd) → Goes M before after n b c end → IsTaken end M.shape.octets → SoFar M after a c (n + 1)
  taken (Done m left) one whole =
      let long : length one.next ≡ M.shape.octets = sym one.ends.0.1 ∙ whole in
      record {
        blocks = so_far.blocks ++ one.next ∷ [];
        now = subst after (blocks_whole M one.next so_far.blocks (omega (arith, long))) (one.puts.stands so_far.blocks so_far.now);
        count = length-append so_far.blocks (one.next ∷ []) ∙ ap (λ k. k + 1) so_far.count;
        taken = All-append (IsBlock M) so_far.blocks (one.next ∷ []) so_far.taken
            (All-cons (IsBlock M) one.next [] (block_of M one.next one.ends.0.2 long) (All-nil (IsBlock M)));
        gives = subst (Gives a.inc c.inc) (sym (concat_push so_far.blocks one.next)) (gives_on _ _ _ _ _ so_far.gives one.gives);
        calm = one.ends.1 ∙ so_far.calm;
        stays = stays_on one.puts.stays;
        lines = λ j below. subst (Reaches All_of_it (out_of (a.outs j)) (out_of (c.outs j)) [])
            (next_whole M one.next (M.made j) so_far.blocks (omega (arith, long)))
            (reaches_on _ _ _ _ _ (so_far.lines j below) All_of_it (one.puts.lines so_far.blocks so_far.now j below));
        desk = subst (Reaches All_of_it (out_of_desk a.desk) (out_of_desk c.desk) []) (next_whole M one.next M.printed so_far.blocks (omega (arith, long)))
            (reaches_on _ _ _ _ _ so_far.desk All_of_it (one.puts.desk so_far.blocks so_far.now));
      }
  taken (Refused m) one whole = absurd whole
  taken ReadFailed one whole = absurd whole
  taken (WriteFailed k) one whole = absurd whole
  taken DeskFailed one whole = absurd whole

  module _ (room : n < 2 ^ 32 - 1) where
    -- the run ends at this block
    ends_as : (end : RunEnd) (one : Goes M before after n b c end) → length one.next ≤ M.shape.octets → EndsAt M a c so_far.blocks one.next end →
        Runs M a c end
    ends_as end one bound ends = record {
      blocks = so_far.blocks;
      last = one.next;
      taken = so_far.taken;
      few = few_with M.shape.octets _ so_far.blocks one.next n whole_blocks so_far.count (room_for M.shape.octets n (length one.next) room bound);
      gives = gives_on _ _ _ _ _ so_far.gives one.gives;
      stays = stays_on one.puts.stays;
      lines = λ j below. reaches_on _ _ _ _ _ (so_far.lines j below) (line_stage end j) (one.puts.lines so_far.blocks so_far.now j below);
      desk = reaches_on _ _ _ _ _ so_far.desk (desk_stage end) (one.puts.desk so_far.blocks so_far.now);
      ends = ends;
    }

    pub ended : (end : RunEnd) → Goes M before after n b c end → (IsTaken end M.shape.octets → ⊥) → RunsTo M after a c end
    unfolding ends_as
    ended (Done m left) one less =
        let why = one.ends in
        let ne : length one.next ≢ M.shape.octets = λ e. less (why.0.1 ∙ e) in
        let short : length one.next < M.shape.octets = omega (arith, why.2, ne) in (
          ends_as (Done m left) one why.2 (why.0.0 ∙ sym so_far.count, why.0.1, rest_of M one.next why.0.2 short, why.1 ∙ so_far.calm, inl (why.3 short)),
          subst after (blocks_less M one.next so_far.blocks short) (one.puts.stands so_far.blocks so_far.now),
        )
    ended (Refused m) one less =
        let why = one.ends in (
          ends_as (Refused m) one why.2
              (why.0.0 ∙ sym so_far.count, record { bound = why.2; short = why.3; bad = why.0.1 }, why.1 ∙ so_far.calm),
          tt,
        )
    ended ReadFailed one less =
        let why = one.ends in
        (ends_as ReadFailed one (omega (arith, why.0)) (omega (arith, so_far.count, room), why.0, subst (λ m. Rose m c.inc.faults) so_far.calm why.1), tt)
    ended (WriteFailed k) one less = let why = one.ends in (ends_as (WriteFailed k) one why.2 (why.0.0, why.0.1, why.1 ∙ so_far.calm, why.3), tt)
    ended DeskFailed one less = let why = one.ends in (ends_as DeskFailed one why.2 (why.0, why.1 ∙ so_far.calm, why.3), tt)

-- so many blocks were taken that no more are
pub at_last : (M : Machine) (stands : List (List ℕ) → Type 0) (a b : Around) (n : ℕ) → IsLawful M → SoFar M stands a b n → n ≡ 2 ^ 32 - 1 →
    RunsTo M stands a b (Done (2 ^ 32 - 1) 0)
at_last M stands a b n law so_far all = (
  record {
    blocks = so_far.blocks;
    last = [];
    taken = so_far.taken;
    few = few_with M.shape.octets _ so_far.blocks [] n (whole_blocks M stands stands a b b n so_far) so_far.count
        (omega (arith, ap (λ k. M.shape.octets * k) all));
    gives = subst (Gives a.inc b.inc) (sym (append-nil (concat so_far.blocks))) so_far.gives;
    stays = so_far.stays;
    lines = λ j below. subst (Reaches All_of_it (out_of (a.outs j)) (out_of (b.outs j)) []) (sym (next_less M [] (M.made j) so_far.blocks law.some))
        (so_far.lines j below);
    desk = subst (Reaches All_of_it (out_of_desk a.desk) (out_of_desk b.desk) []) (sym (next_less M [] M.printed so_far.blocks law.some)) so_far.desk;
    ends = (sym (so_far.count ∙ all), refl, record { less = law.some; good = law.nothing_left }, so_far.calm, inr (refl, refl));
  },
  so_far.now,
)
