-- How each end of the command `solve` is answered.
use Rattle.std.proofs.Common.{◌≡◌, ℕ, suc, ◌+◌, ◌^◌, true, List, [], ◌∷◌, length, refl, sym, ap, subst, ◌∙◌, inl, inr, arith}
use Rattle.std.specs.Prelude.{All, Option}
use Rattle.scut_base.specs.Files.{Files}
use Rattle.std.specs.List.{filter}
use Rattle.std.proofs.lemmas.List.Elements.{All-weaker}
use Rattle.std.proofs.lemmas.Slice.Zip.{AllZip-long}
use Rattle.scut_base.specs.Faults.{NoneFell}
use Rattle.scut_base.specs.World.{World}
use Rattle.front_set.specs.declared.entry.Entry.{Entry}
use Rattle.front_set.specs.ListText.{list_text}
use Rattle.front_text.specs.Spelling.{HasCosts}
use Rattle.instance.specs.declared.objective.Objective.{Objective}
use Rattle.instance.specs.Shape.{InstanceValue, IsWithinLimits}
use Rattle.instance.specs.ParetoFront.{AreProblemVectors, IsFront, IsProblemVector}
use Rattle.instance_normal.specs.NormalForm.{IsCostRowOf, IsNormalFormOf, cost_sources, is_relaxed}
use Rattle.pb_lin.specs.Problem.{ProblemValue}
use Rattle.proof_rules.specs.declared.recorder.RecordFault.{RecordFault}
use Rattle.proof_rules.specs.declared.recorder.RecordFault.TheVariants.{Failed, Full, NoMemory as RecordNoMemory}
use Rattle.log_checker.specs.Accepted.{IsAccepted}
use Rattle.log_checker.proofs.AcceptedFront.{entries_are_front}
use Rattle.certified_front.specs.Planning.{FollowsPlan}
use Rattle.certified_front.specs.Certified.{HasEnded, IsEnding}
use Rattle.certified_front.specs.declared.ending.Ending.{Ending}
use Rattle.certified_front.specs.declared.ending.Ending.TheVariants.{Complete as EndingComplete, Incomplete as EndingIncomplete}
use Rattle.certified_front.specs.declared.ending.Found.{Found}
use Rattle.command_base.specs.Answering.{Answered, Runs, appending, beginning, reading}
use Rattle.command_base.specs.Inputs.{IsInput}
use Rattle.command_base.specs.Statuses.{status_of_recording}
use Rattle.command_base.specs.Views.{View, view}
use Rattle.command_base.specs.declared.status.Status.{Status}
use Rattle.command_base.specs.declared.status.Status.TheVariants.{Done, Complete, Incomplete, Trimmed, Models, LogFull, Accepted, Refused, ModelsRefused, Usage, BadInput, TooLarge, NoMemory, ShelfFailed}
use Rattle.command_base.proofs.Answered.{IsOwn, TakesInput, ended, own_rose, own_rose_at_last}
use Rattle.command_base.proofs.ListSizes.{size_zero}
use Rattle.command_solve.specs.Listing.{IsListed, ListTable, is_complete, list_calls, status_of}
use Rattle.proof_text.specs.LogParts.{IsLogStopped}
use Rattle.command_solve.specs.Logging.{IsLogged}
use Rattle.command_solve.specs.Table.{HasSearch, IsCertified, IsFound, IsListTouched, IsProblemOf, IsUnfinished, SolveRuns, SolveTable, solve_calls, with_log}
use Rattle.command_solve.specs.Words.{SolveAsked}

sources_count : (var : ℕ) (os : List Objective) → length (cost_sources var os) ≡ length os
sources_count var [] = refl
sources_count var (o ∷ os) = ap suc (sources_count (var + length (filter is_relaxed o.softs)) os)

-- a cost row for each objective
pub objective_count : (i : InstanceValue) (p : ProblemValue) → IsNormalFormOf i p → length p.costs ≡ length i.objectives
objective_count i p normal = AllZip-long IsCostRowOf (cost_sources (i.vars + 1) i.objectives) p.costs normal.costs ∙ sources_count (i.vars + 1) i.objectives

-- vectors of models are small enough for a list's text
small_costs : (i : InstanceValue) (entries : List Entry) → AreProblemVectors i entries → All HasCosts entries
small_costs i entries vectors = All-weaker (λ (e : Entry). IsProblemVector i e.costs) HasCosts (λ e vector. vector.small) entries vectors

module _ (a : SolveAsked) where
  pub reads_input : IsOwn (solve_calls a) (reading a.input)
  reads_input = (0, omega arith, refl)

  pub takes_input : (before after : View) → TakesInput (SolveTable a) a.format a.input before after
  takes_input before after = record {
    bad = λ line kind was. was;
    limit = λ line which was. was;
    large = λ was. was;
    memory = inl;
    failed = inl;
  }

  -- the problem is that of the file, which the search takes
  pub problem_of : (files : Option Files) (i : InstanceValue) (p : ProblemValue) → IsInput files a.format a.input i p → HasSearch a i → IsProblemOf files a i p
  problem_of files i p read search = record { text = read.text; search = search; normal = read.normal }

  module _ (i : InstanceValue) (p : ProblemValue) where
    -- the search didn't end
    pub search_stopped : (before after : World) (fault : RecordFault) → IsProblemOf before.files a i p → IsLogStopped fault before.files after.files p a.log a.version before.faults after.faults → after.said ≡ before.said → NoneFell before.faults after.faults
        → Answered (SolveTable a) (solve_calls a) (status_of_recording fault) before after
    search_stopped before after Full of_file stop said later = ended (SolveTable a) (solve_calls a) (LogFull (2 ^ 61)) before after
        (refl, record { instance = i; problem = p; of_file = of_file; full = stop; said = said }) (λ is. cc) later
    search_stopped before after RecordNoMemory of_file stop said later = ended (SolveTable a) (solve_calls a) NoMemory before after
        (inr (inl (record { instance = i; problem = p; of_file = of_file; files = stop; said = said }))) (λ is. cc) later
    search_stopped before after Failed of_file stop said later = record {
      table = inr (inl (record { instance = i; problem = p; of_file = of_file; files = stop.0; said = said }));
      cause = λ failed. elim stop.1 [
        | inl begins ↦ own_rose (solve_calls a) (beginning a.log) before.faults after.faults (1, omega arith, refl) begins
        | inr appends ↦ own_rose (solve_calls a) (appending a.log) before.faults after.faults (2, omega arith, refl) appends
      ];
      later = later;
    }

    module _ (before mid : World) (of_file : IsProblemOf before.files a i p) (limits : IsWithinLimits i) (found : Found) (logged : IsLogged before.files mid.files i p a.log a.version a.limit a.plan found) (quiet : mid.said ≡ before.said) where
      abbrev entries : List Entry
      entries = found.entries.items

      found_in : IsFound before.files a i entries logged.proof found.ending
      found_in = record { problem = p; of_file = of_file; lines = logged.lines; spelled = logged.spelled; first = logged.first; planned = logged.planned; covers = logged.covers; ending = logged.ending }

      mid_is : view mid ≡ with_log (view before) a logged.proof
      mid_is = let files = logged.files in cc

      abbrev accepted : HasEnded p logged.lines → IsAccepted i (list_text true entries) logged.proof
      accepted ended = record {
        entries = entries;
        spelled = record { is = refl; costs = small_costs i entries logged.covers.vectors };
        right = logged.covers.right;
        problem = p;
        normal = of_file.normal;
        proof = record {
          lines = logged.lines;
          spelled = logged.spelled;
          state = ended.0;
          replay = ended.1;
          ended = ended.2;
          covered = logged.covers.covered ended.0 ended.1;
        };
      }

      certified : (after : View) → found.ending ≡ EndingComplete → IsListed a.list (list_text (is_complete found.ending) entries) (status_of (length entries) found.ending) (view mid) after → IsCertified (view before) after a (length entries)
      certified after is listed =
          let ended : HasEnded p logged.lines = subst (λ (e : Ending). IsEnding a.limit p logged.lines e) is logged.ending in
          let front : IsFront i entries = entries_are_front i (list_text true entries) logged.proof limits (accepted ended) in
          record {
            instance = i;
            text = of_file.text;
            search = of_file.search;
            entries = entries;
            front = front;
            counted = refl;
            empty = size_zero i entries front;
            proof = logged.proof;
            accepted = accepted ended;
            first = logged.first;
            planned = subst (λ (e : Ending). FollowsPlan a.plan p logged.lines e) is logged.planned;
            listed = subst (λ (e : Ending). IsListed a.list (list_text (is_complete e) entries) (status_of (length entries) e) (with_log (view before) a logged.proof) after) is
                (subst (λ (v : View). IsListed a.list (list_text (is_complete found.ending) entries) (status_of (length entries) found.ending) v after) mid_is listed);
          }

      unfinished : (after : View) (learned : ℕ) → found.ending ≡ EndingIncomplete learned → IsListed a.list (list_text (is_complete found.ending) entries) (status_of (length entries) found.ending) (view mid) after → IsUnfinished (view before) after a (length entries) learned
      unfinished after learned is listed = record {
        instance = i;
        entries = entries;
        proof = logged.proof;
        found = subst (λ (e : Ending). IsFound before.files a i entries logged.proof e) is found_in;
        counted = refl;
        listed = subst (λ (e : Ending). IsListed a.list (list_text (is_complete e) entries) (status_of (length entries) e) (with_log (view before) a logged.proof) after) is
            (subst (λ (v : View). IsListed a.list (list_text (is_complete found.ending) entries) (status_of (length entries) found.ending) v after) mid_is listed);
      }

      by_ending : (after : View) (e : Ending) → found.ending ≡ e → IsListed a.list (list_text (is_complete found.ending) entries) (status_of (length entries) found.ending) (view mid) after → SolveTable a (status_of (length entries) e) (view before) after
      by_ending after EndingComplete is listed = certified after is listed
      by_ending after (EndingIncomplete learned) is listed = unfinished after learned is listed

      abbrev Listing : Status → View → View → Type 0
      Listing = ListTable a.list (list_text (is_complete found.ending) entries) (length entries) found.ending

      touched : (after : View) → Listing NoMemory (view mid) after → IsListTouched (view before) after a
      touched after listed = record {
        instance = i;
        entries = entries;
        proof = logged.proof;
        ending = found.ending;
        found = found_in;
        listed = subst (λ (v : View). Listing NoMemory v after) mid_is listed;
      }

      done : (after : View) (status : Status) → (status ≡ status_of (length entries) found.ending) × IsListed a.list (list_text (is_complete found.ending) entries) status (view mid) after → SolveTable a status (view before) after
      done after status listed = subst (λ (s : Status). SolveTable a s (view before) after) (sym listed.0)
          (by_ending after found.ending refl (subst (λ (s : Status). IsListed a.list (list_text (is_complete found.ending) entries) s (view mid) after) listed.0 listed.1))

      row : (after : View) (status : Status) → Listing status (view mid) after → SolveTable a status (view before) after
      row after NoMemory listed = inr (inr (touched after listed))
      row after ShelfFailed listed = inr (inr (touched after listed))
      row after (Complete size) listed = done after (Complete size) listed
      row after (Incomplete size learned) listed = done after (Incomplete size learned) listed
      row after Done listed = done after Done listed
      row after (Trimmed kept total) listed = done after (Trimmed kept total) listed
      row after (Models count) listed = done after (Models count) listed
      row after Accepted listed = done after Accepted listed
      row after (Refused fault) listed = done after (Refused fault) listed
      row after (ModelsRefused entry why) listed = done after (ModelsRefused entry why) listed
      row after Usage listed = done after Usage listed
      row after (BadInput line kind) listed = done after (BadInput line kind) listed
      row after (TooLarge line which) listed = done after (TooLarge line which) listed
      row after (LogFull lines) listed = done after (LogFull lines) listed

      -- the list was written, or a part of it
      pub search_listed : (after : World) (status : Status) → mid.warned ≡ before.warned → NoneFell before.faults mid.faults → Runs Listing (list_calls a.list) status mid after → SolveRuns a status before after
      search_listed after status unwarned later runs = record {
        answered = record {
          table = row (view after) status was.table;
          cause = λ failed. own_rose_at_last (solve_calls a) before.faults mid.faults after.faults later (record { call = inr (inr (inr (was.cause failed).call)) });
          later = λ call name. omega (arith, later call name, was.later call name);
        };
        warned = runs.warned ∙ unwarned;
      }
        where
          was : Answered Listing (list_calls a.list) status mid after
          was = runs.answered
