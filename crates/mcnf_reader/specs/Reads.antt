-- What reading all lines answers.
use Rattle.std.specs.Prelude.{List, ℕ, map}
use Rattle.std.specs.List.{AllZip}
use Rattle.mcnf_reader.specs.declared.draft.Draft.{Draft}
use Rattle.mcnf_reader.specs.declared.statement.Statement.{Statement}
use Rattle.mcnf_reader.specs.Words.{lines_of, words_of}
use Rattle.mcnf_reader.specs.Grammar.{SpellsStatement}
use Rattle.mcnf_reader.specs.Draft.{IsReady, IsDraftOf}

-- the lines spell statements that make the draft
pub record IsReadAs (text : List ℕ) (d : Draft) : Type 0 where
  pub statements : List Statement
  pub lines : AllZip SpellsStatement (map words_of (lines_of text)) statements
  pub ready : IsReady d
  pub draft : IsDraftOf d statements
