-- The text of a mark, and the grammar of texts that begin with one (this project's profile).
use Rattle.std.specs.Prelude.{ℕ, ◌-◌, ◌≤◌, ◌≡◌, List, [], ◌∷◌, ◌++◌, codes, decimal, length, map, take}
use Rattle.std.specs.List.{concat}
use Rattle.farm_checkpoint.specs.declared.mark.MarkCall.{MarkCall}
use Rattle.farm_checkpoint.specs.Marks.{MarkView, IsMark}

-- save P
unfoldable pub save_line : ℕ → List ℕ
save_line period = codes "save " ++ (decimal period ++ codes "\n")

-- call C from S out X down Y
unfoldable pub call_text : MarkCall → List ℕ
call_text c =
    codes "call " ++ (decimal c.call ++ (codes " from " ++ (decimal c.from
    ++ (codes " out " ++ (decimal c.out ++ (codes " down " ++ (decimal c.down ++ codes "\n")))))))

-- orders
abbrev pub orders_line : List ℕ
orders_line = codes "orders\n"

-- the lines of a mark, each with its LF
abbrev pub mark_lines : MarkView → List (List ℕ)
mark_lines mark = save_line mark.period ∷ (map call_text mark.calls ++ orders_line ∷ [])

-- the text of a mark
abbrev pub mark_text : MarkView → List ℕ
mark_text mark = concat (mark_lines mark)

-- a text begins with the first n lines of this mark, which has at least n
pub record HasLines (text : List ℕ) (mark : MarkView) (n : ℕ) : Type 0 where
  pub is : IsMark mark
  pub many : n ≤ length (mark_lines mark)
  pub rest : List ℕ
  pub whole : text ≡ concat (take n (mark_lines mark)) ++ rest

-- line n, counted from 1, is the first that isn't in the grammar: the lines before it are the first ones of a mark with
-- more lines, and together with it they are the first ones of no mark
pub record IsFirstBad (text : List ℕ) (n : ℕ) : Type 0 where
  pub at_least : 1 ≤ n
  pub before : MarkView
  pub good : HasLines text before (n - 1)
  pub more : n ≤ length (mark_lines before)
  pub bad : (mark : MarkView) → HasLines text mark n → ⊥

-- a text begins with this mark, which has this number of octets; orders follow
pub record IsRead (text : List ℕ) (mark : MarkView) (octets : ℕ) : Type 0 where
  pub is : IsMark mark
  pub orders : List ℕ
  pub whole : text ≡ mark_text mark ++ orders
  pub place : octets ≡ length (mark_text mark)

-- a text begins with at most one mark
abbrev pub HasOneMark : Type 0
HasOneMark = (text : List ℕ) (mark other : MarkView) (m n : ℕ) → IsRead text mark m → IsRead text other n → (mark ≡ other) × (m ≡ n)

-- a text that begins with a mark has no bad line
abbrev pub NotGoodAndBad : Type 0
NotGoodAndBad = (text : List ℕ) (mark : MarkView) (m n : ℕ) → IsRead text mark m → IsFirstBad text n → ⊥

-- a text has at most one first bad line
abbrev pub HasOneFirst : Type 0
HasOneFirst = (text : List ℕ) (m n : ℕ) → IsFirstBad text m → IsFirstBad text n → m ≡ n
