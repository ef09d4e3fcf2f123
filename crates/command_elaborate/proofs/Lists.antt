-- Lines that are elaborated one after another.
use Rattle.std.specs.Prelude.{◌≡◌, List, [], ◌∷◌, ◌++◌, Option, None, Some, refl}
use Rattle.std.proofs.Common.{sym, ◌∙◌, subst}
use Rattle.pb_lin.specs.Problem.{ProblemValue}
use Rattle.proof_laws.specs.State.{StateValue, start}
use Rattle.proof_laws.specs.Replay.{Leads}
use Rattle.proof_laws.specs.declared.line.Line.{Line}
use Rattle.proof_laws.specs.declared.why.Why.{Why}
use Rattle.command_elaborate.specs.Loose.{IsLooselyRefused, LeadsLoosely, AreElaborated}
use Rattle.command_elaborate.specs.Reasons.{IsAdded, Elaborates}
use Rattle.command_elaborate.specs.Laws.{ElaborationsGoOn, ElaborationsReplay}
use Rattle.command_elaborate.proofs.Judged.{judged_loosely_law}
use Rattle.command_elaborate.proofs.Replays.{elaborated_next, leads}

module _ (p : ProblemValue) where
  -- what was answered leads to the state
  led : (s : StateValue) (lines news : List Line) (t : StateValue) (refused : Option Why) → Elaborates p s lines news t refused → Leads p s news t
  led s [] [] t refused is = is.1
  led s [] (new ∷ news) t refused is = cc
  led s (line ∷ lines) [] t refused is = is.0
  led s (line ∷ lines) (new ∷ news) t refused is = (is.0, is.1.next, led is.0 lines news t refused is.2)

  -- where nothing is refused, each line has its own
  each : (s : StateValue) (lines news : List Line) (t : StateValue) (refused : Option Why) → refused ≡ None → Elaborates p s lines news t refused → AreElaborated lines news
  each s [] [] t refused none is = tt
  each s [] (new ∷ news) t refused none is = cc
  each s (line ∷ lines) [] t refused none is = let both : None ≡ Some is.1.0 = sym none ∙ is.1.1 in cc
  each s (line ∷ lines) (new ∷ news) t refused none is = (is.1.elaborated, each is.0 lines news t refused none is.2)

  -- lines that lead loosely to a state are not refused, and lead to this one
  not_refused : (s : StateValue) (lines news : List Line) (t : StateValue) (refused : Option Why) → Elaborates p s lines news t refused → (u : StateValue) → LeadsLoosely p s lines u → (refused ≡ None) × (t ≡ u)
  not_refused s [] news t refused is u loosely = (is.2, is.1 ∙ sym loosely)
  not_refused s (line ∷ lines) [] t refused is u loosely = absurd ((judged_loosely_law p s line).not_both is.1.0 loosely.0 is.1.2 loosely.1)
  not_refused s (line ∷ lines) (new ∷ news) t refused is u loosely =
      let same : loosely.0 ≡ is.0 = (judged_loosely_law p s line).one_next loosely.0 is.0 loosely.1 (elaborated_next p s is.0 line new is.1.elaborated is.1.next) in
      not_refused is.0 lines news t refused is.2 u (subst (λ (next : StateValue). LeadsLoosely p next lines u) same loosely.2)

  -- one line more that is added
  one_more : (s : StateValue) (lines news : List Line) (t : StateValue) (line new : Line) (u : StateValue) → Elaborates p s lines news t None → IsAdded p t line new u → Elaborates p s (lines ++ line ∷ []) (news ++ new ∷ []) u None
  one_more s [] [] t line new u is added = (u, subst (λ (v : StateValue). IsAdded p v line new u) is.1 added, (refl, refl, refl))
  one_more s [] (first ∷ news) t line new u is added = cc
  one_more s (first ∷ lines) [] t line new u is added = cc
  one_more s (first ∷ lines) (old ∷ news) t line new u is added = (is.0, is.1, one_more is.0 lines news t line new u is.2 added)

  -- one that is refused, whatever follows
  none_more : (s : StateValue) (lines news : List Line) (t : StateValue) (line : Line) (why : Why) (later : List Line) → Elaborates p s lines news t None → IsLooselyRefused p t line why → Elaborates p s (lines ++ line ∷ later) news t (Some why)
  none_more s [] [] t line why later is refused = (is.1, (why, refl, subst (λ (v : StateValue). IsLooselyRefused p v line why) is.1 refused))
  none_more s [] (first ∷ news) t line why later is refused = cc
  none_more s (first ∷ lines) [] t line why later is refused = cc
  none_more s (first ∷ lines) (old ∷ news) t line why later is refused = (is.0, is.1, none_more is.0 lines news t line why later is.2 refused)

pub goes_on_law : ElaborationsGoOn
goes_on_law p s lines news t line is = record {
  added = λ new u added. one_more p s lines news t line new u is added;
  refused = λ why later refused. none_more p s lines news t line why later is refused;
}

pub elaborations_law : ElaborationsReplay
elaborations_law p lines news t refused is = record {
  replay = led p (start p) lines news t refused is;
  elaborated = λ none. each p (start p) lines news t refused none is;
  loosely = λ none. leads p lines news (start p) t (each p (start p) lines news t refused none is) (led p (start p) lines news t refused is);
  not_refused = λ u loosely. not_refused p (start p) lines news t refused is u loosely;
}
