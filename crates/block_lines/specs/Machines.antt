-- A block machine: a command as a function of the blocks that it takes from its line.
use Rattle.std.specs.Prelude.{◌≡◌, ◌≢◌, ◌⊎◌, ℕ, ◌<◌, ◌≤◌, List, [], ◌∷◌, ◌++◌, length, nat_lt, if◌then◌else◌}
use Rattle.block_lines.specs.declared.machine.Shape.{Shape}

-- Which whole blocks are taken, and which octets may be left after the last of them. What outgoing line j gains, and
-- what is printed before the last text, for the blocks and the octets left. The last text at the line's end, which
-- depends on the octets left by their number, and the last text after this number of blocks at one that is refused.
pub record Machine : Type 1 where
  pub shape : Shape
  pub takes : List ℕ → Type 0
  pub may_be_left : List ℕ → Type 0
  pub made : ℕ → List (List ℕ) → List ℕ → List ℕ
  pub printed : List (List ℕ) → List ℕ → List ℕ
  pub done_text : List (List ℕ) → List ℕ → List ℕ
  pub refused_text : ℕ → List ℕ

-- a block that is taken
pub record IsBlock (M : Machine) (block : List ℕ) : Type 0 where
  pub whole : length block ≡ M.shape.octets
  pub good : M.takes block

-- octets that may be left after the last block
pub record IsRest (M : Machine) (rest : List ℕ) : Type 0 where
  pub less : length rest < M.shape.octets
  pub good : M.may_be_left rest

-- a block that is taken, or octets that may be left
abbrev pub IsNext : Machine → List ℕ → Type 0
IsNext M next = IsBlock M next ⊎ IsRest M next

-- a refused block, as far as it was read: it is neither taken nor left, and is whole unless the line ended inside it
pub record IsRefused (M : Machine) (next : List ℕ) (line_ended : Type 0) : Type 0 where
  pub bound : length next ≤ M.shape.octets
  pub short : length next < M.shape.octets → line_ended
  pub bad : IsNext M next → ⊥

-- a machine that refuses nothing: it takes every whole block, and any octets may be left
pub record RefusesNone (M : Machine) : Type 0 where
  pub takes : (block : List ℕ) → length block ≡ M.shape.octets → M.takes block
  pub left : (rest : List ℕ) → length rest < M.shape.octets → M.may_be_left rest

-- the blocks, with the next one if it is whole
abbrev pub blocks_with : Machine → List (List ℕ) → List ℕ → List (List ℕ)
blocks_with M blocks next = if nat_lt (length next) M.shape.octets then blocks else blocks ++ next ∷ []

-- what goes out for the blocks and the next one, or for the blocks and the octets left
abbrev pub with_next : Machine → (List (List ℕ) → List ℕ → List ℕ) → List (List ℕ) → List ℕ → List ℕ
with_next M f blocks next = if nat_lt (length next) M.shape.octets then f blocks next else f (blocks ++ next ∷ []) []

-- a block has 1 to 160 octets; there are at most 4 outgoing lines, none of them the incoming one; nothing goes out
-- before the first block; and a line may end after its last block
pub record IsLawful (M : Machine) : Type 0 where
  pub some : 0 < M.shape.octets
  pub most : M.shape.octets ≤ 160
  pub few : M.shape.lines ≤ 4
  pub apart : M.shape.from ≢ M.shape.to
  pub nothing_made : (j : ℕ) → M.made j [] [] ≡ []
  pub nothing_printed : M.printed [] [] ≡ []
  pub nothing_left : M.may_be_left []
