-- Which of two faults is the first.
use Rattle.std.proofs.Common.{◌≡◌, Bool, true, false, not, cond, Option, None, Some, refl, ap, ◌∙◌}
use Rattle.std.specs.Option.{option_or}
use Rattle.instance.specs.declared.fault.PlaceFault.{PlaceFault}
use Rattle.instance.specs.declared.fault.PlaceFault.TheVariants.{Bad as BadPlace, Limit as LimitThere, NoMemory as PlaceNoMemory}
use Rattle.instance.specs.declared.fault.ReadFault.{ReadFault}
use Rattle.instance.specs.declared.fault.ReadFault.TheVariants.{Bad, Limit, NoMemory}
use Rattle.instance.specs.Reading.{IsFaultOf, IsPlaceFaultOf}

-- a test that is passed where there is no fault
pub passed : (b : Bool) (f : PlaceFault) (o : Option PlaceFault) → cond (not b) (Some f) o ≡ None → (b ≡ true) × (o ≡ None)
passed true f o e = (refl, e)
passed false f o e = (cc, cc)

pub failed_not : (b : Bool) (f : PlaceFault) (o : Option PlaceFault) → cond b (Some f) o ≡ None → (b ≡ false) × (o ≡ None)
failed_not true f o e = (cc, cc)
failed_not false f o e = (refl, e)

pub passed_last : (b : Bool) (f : PlaceFault) → cond b None (Some f) ≡ None → b ≡ true
passed_last true f e = refl
passed_last false f e = cc

-- a fault that is named is the first fault
pub place_fault : (o : Option PlaceFault) (f : PlaceFault) → o ≡ Some f → IsPlaceFaultOf o f
place_fault o (BadPlace kind) e = e
place_fault o (LimitThere which) e = e
place_fault o PlaceNoMemory e = tt

pub place_fault_same : (o p : Option PlaceFault) (f : PlaceFault) → p ≡ o → IsPlaceFaultOf o f → IsPlaceFaultOf p f
place_fault_same o p (BadPlace kind) same e = same ∙ e
place_fault_same o p (LimitThere which) same e = same ∙ e
place_fault_same o p PlaceNoMemory same e = tt

pub fault_first : (o p : Option ReadFault) (f : ReadFault) → IsFaultOf o f → IsFaultOf (option_or o p) f
fault_first o p (Bad line kind) e = ap (λ x. option_or x p) e
fault_first o p (Limit line which) e = ap (λ x. option_or x p) e
fault_first o p NoMemory e = tt

pub fault_same : (o p : Option ReadFault) (f : ReadFault) → p ≡ o → IsFaultOf o f → IsFaultOf p f
fault_same o p (Bad line kind) same e = same ∙ e
fault_same o p (Limit line which) same e = same ∙ e
fault_same o p NoMemory same e = tt
