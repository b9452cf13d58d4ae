-- What a bound of listeners gives: their laws.
use seplogic.Ra.Ura.{Ura}
use mir.Syntax.{Dict}
use types.Logic.{Logic}
use prog.Model.{Model}
use contract.Running.{Running}
use denote.RattleType.{RattleType}
use Rattle.air_core.specs.declared.listener.Listener.{Ghosts}
use Rattle.air_core.specs.contracts.listener.Listener.TheBound.{Met}
use Rattle.air_core.proofs.PlainAside.{Laws}

pub laws_of : {M : Type 1} {𝓤 : Ura M} {𝓛 : Logic 𝓤} {𝓜 : Model 𝓤 𝓛.H} {𝓡 : Running 𝓤 𝓛.H 𝓜} {X : RattleType} {k : Ghosts X.Denot} {d : Dict} → Met 𝓛 𝓜 𝓡 𝓡.env X k d → Laws k
laws_of met = record {
  step_keeps = met.step_keeps;
  dark_keeps = met.dark_keeps;
  dark_rests = met.dark_rests;
  rests = met.rests;
  ignores = met.ignores;
}
