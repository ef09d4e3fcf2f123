-- The lines that taking a model adds.
use Rattle.std.proofs.Common.{◌≡◌, ℕ, Bool, true, false, List, [], ◌∷◌, ◌++◌, Result, Ok, Err, sym, subst, ap, ◌∙◌, append-nil, append_assoc}
use Rattle.std.specs.Prelude.{IfOk, MatchBool, OnErr}
use Rattle.std.proofs.lemmas.List.Elements.{All-append, All-cons, All-nil, All-weaker}
use Rattle.proof_laws.specs.declared.line.Line.{Line}
use Rattle.proof_laws.specs.declared.line.Line.TheVariants.{Pol, Rup, Def, Red, Sol}
use Rattle.proof_rules.specs.Recording.{Snapshot}
use Rattle.proof_rules.specs.declared.recorder.RecordFault.{RecordFault}
use Rattle.scut_base.specs.Literal.{Literal}
use Rattle.sum_outputs.specs.Adding.{Continues}
use Rattle.recording.specs.Advice.{IsConservative}
use Rattle.totalizer.specs.declared.bound.Bound.{Bound}
use Rattle.search_base.specs.Cutting.{IsModelLine}
use Rattle.search_base.specs.Logged.{AddsTakenLines, IsTakenLine}
use Rattle.search_base.specs.Pending.{AddsLine, MayNotAdd}

pub none_taken : (lines new : List Line) → new ≡ lines → AddsTakenLines lines new
none_taken lines new same = record { more = []; is = same ∙ sym (append-nil lines); kinds = All-nil IsTakenLine }

is_taken_line : (line : Line) → IsConservative line → IsTakenLine line
is_taken_line (Def var sum) is = tt
is_taken_line (Pol tokens) is = tt
is_taken_line (Rup goal hints) is = tt
is_taken_line (Red goal w proofs) is = is
is_taken_line line is = absurd is

pub totalizer_taken : (a b : Snapshot) → Continues a b → AddsTakenLines a.lines b.lines
totalizer_taken a b on = record {
  more = on.more;
  is = on.lines;
  kinds = All-weaker IsConservative IsTakenLine is_taken_line on.more on.kinds;
}

sol_taken : (old new : List Line) (model cut : List Literal) (ids : List ℕ) (line : Line) → line ≡ Sol model cut ids →
    new ≡ old ++ line ∷ [] → AddsTakenLines old new
sol_taken old new model cut ids line is lines = record {
  more = line ∷ [];
  is = lines;
  kinds = All-cons IsTakenLine line [] (subst IsTakenLine (sym is) tt) (All-nil IsTakenLine);
}

pub model_taken : (old new : List Line) (x : List Bool) (answers : List Bound) (line : Line) →
    IsModelLine x answers line → new ≡ old ++ line ∷ [] → AddsTakenLines old new
model_taken old new x answers line is lines = sol_taken old new _ _ _ line is.is lines

-- a line that logs was judged, and added where it is legal
pub judged_taken : (a b : Snapshot) (line : Line) (model cut : List Literal) (ids : List ℕ)
    (result : Result Bool RecordFault) → line ≡ Sol model cut ids →
    IfOk result (λ added. MatchBool added (AddsLine a b line) (MayNotAdd a line × (b ≡ a))) →
    OnErr result (b.lines ≡ a.lines) → AddsTakenLines a.lines b.lines
judged_taken a b line model cut ids (Ok true) is adds kept = sol_taken a.lines b.lines model cut ids line is adds.lines
judged_taken a b line model cut ids (Ok false) is adds kept =
    none_taken a.lines b.lines (ap (λ (c : Snapshot). c.lines) adds.1)
judged_taken a b line model cut ids (Err f) is adds kept = none_taken a.lines b.lines kept

pub taken_twice : (first second third : List Line) → AddsTakenLines first second → AddsTakenLines second third →
    AddsTakenLines first third
taken_twice first second third one other = record {
  more = one.more ++ other.more;
  is = other.is ∙ ap (λ (ls : List Line). ls ++ other.more) one.is ∙ append_assoc first one.more other.more;
  kinds = All-append IsTakenLine one.more other.more one.kinds other.kinds;
}
