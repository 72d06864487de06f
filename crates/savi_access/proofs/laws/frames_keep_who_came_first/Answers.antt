use Rattle.savi_access.proofs.FirstCome.{keeps_first}
use Rattle.savi_access.proofs.laws.frames_keep_who_came_first.Goals as goal

pub returns : goal.returns
returns c = λ r base vlan p q from t0 t early late eth ip read m is right after soon on host own off found turn_early turn_late live apart passed.
    keeps_first r base is vlan q t soon late early right after own on off host eth ip read m found from t0 turn_early turn_late p live apart passed
