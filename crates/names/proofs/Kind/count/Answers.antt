-- `names::Kind::count`: each kind's count is computed of its names. Assumes nothing.
use Rattle.names.specs.declared.Kind.TheVariants.{Kex, Key, Certificate, Cipher, Mac, Compression}
use Rattle.names.proofs.TableLaws.{count_kind}
use Rattle.names.proofs.Kind.count.Goals as goal

pub returns-in-Kex : goal.returns-in-Kex
returns-in-Kex c = rw c.in-Kex.is (count_kind Kex)

pub returns-in-Key : goal.returns-in-Key
returns-in-Key c = rw c.in-Key.is (count_kind Key)

pub returns-in-Certificate : goal.returns-in-Certificate
returns-in-Certificate c = rw c.in-Certificate.is (count_kind Certificate)

pub returns-in-Cipher : goal.returns-in-Cipher
returns-in-Cipher c = rw c.in-Cipher.is (count_kind Cipher)

pub returns-in-Mac : goal.returns-in-Mac
returns-in-Mac c = rw c.in-Mac.is (count_kind Mac)

pub returns-in-Compression : goal.returns-in-Compression
returns-in-Compression c = rw c.in-Compression.is (count_kind Compression)
