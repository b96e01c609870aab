-- The errors of the crates below, as those of the engine. Source: this project's own.
use Rattle.blink_base.specs.declared.refusal.Refusal.TheVariants as refusal
use Rattle.blink_loader.specs.declared.batch.LoadFault.{LoadFault}
use Rattle.blink_loader.specs.declared.batch.LoadFault.TheVariants as load
use Rattle.cell_layout.specs.declared.fault.LayoutError.{LayoutError}
use Rattle.cell_layout.specs.declared.fault.LayoutError.TheVariants as layout
use Rattle.star_bind.specs.declared.fault.BindFault.{BindFault}
use Rattle.star_bind.specs.declared.fault.BindFault.TheVariants as bind
use Rattle.star_engine.specs.declared.fault.EngineError.{EngineError}
use Rattle.star_engine.specs.declared.fault.EngineError.TheVariants.{Refused, Memory}

-- what a batch that can't be laid out is refused with
abbrev pub layout_error : LayoutError → EngineError
layout_error (layout.DuplicateKey at) = Refused (refusal.DuplicateKey at)
layout_error layout.Rows = Refused refusal.TooManyRows
layout_error layout.Memory = Memory

-- what a CSV text that gives no rows is refused with
abbrev pub load_error : LoadFault → EngineError
load_error load.Header = Refused refusal.BadHeader
load_error (load.Arity at) = Refused (refusal.Arity at)
load_error (load.BadValue at field fault) = Refused (refusal.BadValue at field)
load_error load.Memory = Memory

-- what a SELECT that is no query of the tables is refused with
abbrev pub bind_error : BindFault → EngineError
bind_error (bind.UnknownTable name) = Refused (refusal.UnknownTable name)
bind_error (bind.UnknownColumn name) = Refused (refusal.UnknownColumn name)
bind_error (bind.Ambiguous name) = Refused (refusal.AmbiguousColumn name)
bind_error bind.WrongKind = Refused refusal.WrongKind
bind_error bind.NotStar = Refused refusal.NotStar
bind_error bind.NotGrouped = Refused refusal.NotGrouped
bind_error bind.Wide = Refused refusal.TooManyConjunctions
bind_error bind.Memory = Memory
