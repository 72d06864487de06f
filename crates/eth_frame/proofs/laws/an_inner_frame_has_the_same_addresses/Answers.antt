use Rattle.eth_frame.proofs.Untagged.{inner_dst, inner_src, inner_whole, inner_short}
use Rattle.eth_frame.proofs.laws.an_inner_frame_has_the_same_addresses.Goals as goal

pub returns-clause-dst : goal.returns-clause-dst
returns-clause-dst c = inner_dst

pub returns-clause-src : goal.returns-clause-src
returns-clause-src c = inner_src

pub returns-clause-whole : goal.returns-clause-whole
returns-clause-whole c = inner_whole

pub returns-clause-short : goal.returns-clause-short
returns-clause-short c = inner_short
