-- How the fields of the code's silo are a silo by itself.
use Rattle.silo_rules.specs.SiloValue.{SiloValue}
use Rattle.directory_silo.specs.declared.silo.Silo.TheInside.{Inside}

abbrev pub silo_of : Inside → SiloValue
silo_of s = record { membership = s.membership; node = s.node }
