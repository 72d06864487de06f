use Rattle.savi_history.proofs.AddressTexts.{written-IsAddressText}
use Rattle.savi_history.proofs.laws.written_addresses_are_told_apart.Goals as goal

pub returns : goal.returns
returns c = written-IsAddressText
