-- Facts of one case of an option.
use Rattle.std.proofs.Common.{◌≡◌, false, Option, Some, None, is_none, OnSome, IfNone}

pub on_some : {X : Type 0} (o : Option X) (P : Type 0) → P → OnSome o P
on_some None P h = tt
on_some (Some x) P h = h

pub if_none_never : {X : Type 0} (o : Option X) (P : Type 0) → is_none o ≡ false → IfNone o P
if_none_never None P full = cc
if_none_never (Some x) P full = tt
