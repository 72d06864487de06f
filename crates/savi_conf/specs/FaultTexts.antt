-- What is told of a configuration that gives no plan.
use Rattle.std.specs.Prelude.{ℕ, List, ◌++◌, codes, decimal}
use Rattle.savi_conf.specs.declared.fault.ConfFault.{ConfFault}
use Rattle.savi_conf.specs.declared.fault.ConfFault.TheVariants.{NoMemory, NotToml, Bad}

abbrev pub fault_text : ConfFault → List ℕ
fault_text NoMemory = codes "out of memory"
fault_text NotToml = codes "config is not TOML"
fault_text (Bad number) = codes "config fault " ++ decimal number
