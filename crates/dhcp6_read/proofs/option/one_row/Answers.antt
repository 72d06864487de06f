use Rattle.dhcp6_read.specs.DhcpOf.{option_row}
use Rattle.dhcp6_read.proofs.Rows.{gives_rows, row_same}
use Rattle.dhcp6_read.proofs.option.one_row.Goals as goal

pub returns : goal.returns
returns c = λ octets. (option_row octets, gives_rows octets, λ other is. row_same octets other (option_row octets) is (gives_rows octets))
