-- What proofs tell shelves in memory apart by: their fields. Nothing here says what a shelf does.
use Rattle.std.specs.Prelude.{◌≡◌, ℕ, ◌==◌, if◌then◌else◌, List, refl}
use Rattle.std.specs.Coded.{Coded, code_by, coded×, coded_ℕ, coded_list}
use Rattle.scut_base.specs.Files.{Files}
use Rattle.scut_base.specs.FileMap.{files_code}
use Rattle.scut_base.specs.Faults.{call_number}
use Rattle.scut_base.specs.Memory.{Memory}
use Rattle.scut_base.specs.declared.shelf.ShelfCall.{ShelfCall}
use Rattle.scut_base.specs.declared.shelf.ShelfCall.TheVariants.{Read, Begin, Append, Say, Warn}
use Rattle.scut_base.specs.declared.mem_shelf.PlannedFault.{PlannedFault}

abbrev call_of : ℕ → ShelfCall
call_of n = if n == 0 then Read else if n == 1 then Begin else if n == 2 then Append else if n == 3 then Say else Warn

pub call_of_number : (call : ShelfCall) → call_of (call_number call) ≡ call
call_of_number Read = refl
call_of_number Begin = refl
call_of_number Append = refl
call_of_number Say = refl
call_of_number Warn = refl

abbrev coded_call : Coded ShelfCall
coded_call = code_by ℕ coded_ℕ call_number call_of call_of_number

abbrev coded_planned : Coded PlannedFault
coded_planned = code_by (ShelfCall × (ℕ × ℕ)) (coded× coded_call (coded× coded_ℕ coded_ℕ)) (λ f. (f.call, (f.number, f.bytes))) (λ t. record { call = t.0; number = t.1.0; bytes = t.1.1 }) (λ _. refl)

abbrev pub memory_code : Coded Memory
memory_code = code_by (Files × (List ℕ × (List ℕ × (List PlannedFault × (List ℕ × ℕ)))))
    (coded× files_code (coded× (coded_list coded_ℕ) (coded× (coded_list coded_ℕ) (coded× (coded_list coded_planned) (coded× (coded_list coded_ℕ) coded_ℕ)))))
    (λ s. (s.files, (s.said, (s.warned, (s.plan, (s.calls, s.faults)))))) (λ t. record { files = t.0; said = t.1.0; warned = t.1.1.0; plan = t.1.1.1.0; calls = t.1.1.1.1.0; faults = t.1.1.1.1.1 }) (λ _. refl)
