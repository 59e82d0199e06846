-- "Trial sheets": the trial grammar, and the starred cases as one table.
use Rattle.std.specs.Prelude.{List, [], ◌∷◌, ℕ, get_or}
use Rattle.rules.specs.Grammar.{Symbol, Production, Token, no_column}
use Rattle.rules.specs.Walk.{Answer, answer, walk}
use Rattle.rules.specs.Verdict.{Verdict}

-- a symbol by its relation and its number: relation 0 is =, 1 is >, 2 is ≥
abbrev terminal : ℕ → ℕ → Symbol
terminal relation number = record { kind = 0; relation = relation; number = number }

abbrev nonterminal : ℕ → ℕ → Symbol
nonterminal relation number = record { kind = 1; relation = relation; number = number }

abbrev production : ℕ → List Symbol → Production
production left right = record { left = left; right = right }

-- "Terminals: day 0, hour 1, item 2. Nonterminals: Sheet 0 (start), Hours 1, Hour 2, Items 3"
unfoldable pub trial_grammar : ℕ → Production
trial_grammar n =
    get_or
    -- "0 Sheet → day= Hours>"
    (production 0 (terminal 0 0 ∷ nonterminal 1 1 ∷ [])
    -- "1 Hours → Hour= Hours="
    ∷ production 1 (nonterminal 0 2 ∷ nonterminal 0 1 ∷ [])
    -- "2 Hours → nothing"
    ∷ production 1 []
    -- "3 Hour → hour= Items>"
    ∷ production 2 (terminal 0 1 ∷ nonterminal 1 3 ∷ [])
    -- "4 Items → item≥ Items="
    ∷ production 3 (terminal 2 2 ∷ nonterminal 0 3 ∷ [])
    ∷ [])
    n
    -- "5 Items → nothing"
    (production 3 [])

-- a token by its column
abbrev pub day : ℕ → Token
day column = record { terminal = 0; column = column }

abbrev pub hour : ℕ → Token
hour column = record { terminal = 1; column = column }

abbrev pub item : ℕ → Token
item column = record { terminal = 2; column = column }

-- a row of the table; a refused sheet has no indentations
pub record Sheet : Type 0 where
  pub tokens : List Token
  pub nodes : List ℕ
  pub answer : Answer
  pub indentations : List ℕ

abbrev pub trial : List Token → List ℕ → Answer → List ℕ → Sheet
trial tokens nodes answer indentations =
    record { tokens = tokens; nodes = nodes; answer = answer; indentations = indentations }

-- the tree of A
abbrev tree_a : List ℕ
tree_a = 0 ∷ 1 ∷ 3 ∷ 4 ∷ 5 ∷ 1 ∷ 3 ∷ 5 ∷ 2 ∷ []

-- the rows that document 01 marks with a star, in its order
unfoldable pub starred : List Sheet
starred =
    trial (day 1 ∷ hour 3 ∷ item 5 ∷ hour 3 ∷ []) tree_a (answer 0 0) (1 ∷ 3 ∷ 3 ∷ 4 ∷ 4 ∷ 3 ∷ 3 ∷ 4 ∷ 3 ∷ [])
    ∷ trial (day 1 ∷ hour 3 ∷ item 4 ∷ hour 3 ∷ []) tree_a (answer 0 0) (1 ∷ 3 ∷ 3 ∷ 4 ∷ 4 ∷ 3 ∷ 3 ∷ 4 ∷ 3 ∷ [])
    ∷ trial (day 1 ∷ hour 3 ∷ item 3 ∷ hour 3 ∷ []) tree_a (answer 12 2) []
    ∷ trial (day 1 ∷ hour 3 ∷ item 5 ∷ hour 4 ∷ []) tree_a (answer 12 1) []
    ∷ trial (day 1 ∷ hour 1 ∷ []) (0 ∷ 1 ∷ 3 ∷ 5 ∷ 2 ∷ []) (answer 12 0) []
    ∷ trial (day 1 ∷ hour 2 ∷ []) (0 ∷ 1 ∷ 3 ∷ 5 ∷ 2 ∷ []) (answer 0 0) (1 ∷ 2 ∷ 2 ∷ 3 ∷ 2 ∷ [])
    ∷ trial (day 0 ∷ []) (0 ∷ 2 ∷ []) (answer 0 0) (0 ∷ 1 ∷ [])
    ∷ trial (day 0 ∷ hour 0 ∷ []) (0 ∷ 1 ∷ 3 ∷ 5 ∷ 2 ∷ []) (answer 12 0) []
    ∷ trial [] (0 ∷ 2 ∷ []) (answer 8 0) []
    ∷ trial (day 1 ∷ []) (2 ∷ []) (answer 5 0) []
    ∷ trial (day 1 ∷ []) (0 ∷ []) (answer 6 1) []
    ∷ trial (hour 1 ∷ []) (0 ∷ 2 ∷ []) (answer 7 0) []
    ∷ trial (day 1 ∷ hour 3 ∷ []) (0 ∷ 2 ∷ []) (answer 11 1) []
    ∷ trial (day 1 ∷ hour 3 ∷ []) (0 ∷ 2 ∷ 2 ∷ []) (answer 10 2) []
    ∷ []

-- A with a token without a column: the item, which stands at ≥, then an hour and the day, which stand at =
unfoldable pub joined : List Sheet
joined =
    trial (day 1 ∷ hour 3 ∷ item no_column ∷ hour 3 ∷ []) tree_a (answer 0 0) (1 ∷ 3 ∷ 3 ∷ 4 ∷ 4 ∷ 3 ∷ 3 ∷ 4 ∷ 3 ∷ [])
    ∷ trial (day 1 ∷ hour no_column ∷ item 5 ∷ hour 3 ∷ []) tree_a (answer 12 2) []
    ∷ trial (day no_column ∷ hour 3 ∷ item 5 ∷ hour 3 ∷ []) tree_a (answer 12 0) []
    ∷ []

-- answer and indentations of a row are the verdict on its sheet, with some sets
pub record SheetJudged (sheet : Sheet) : Type 0 where
  pub sets : List ℕ
  pub verdict : Verdict trial_grammar 0 sheet.nodes sheet.tokens
      (walk trial_grammar sheet.nodes sheet.tokens 0) sheet.answer sets sheet.indentations

infixr 5 ◌also◌
-- P is true of each element
pub data Each {A : Type 0} (P : A → Type 0) : List A → Type 0 where
  done : Each P []
  ◌also◌ : {x : A} {xs : List A} → P x → Each P xs → Each P (x ∷ xs)
