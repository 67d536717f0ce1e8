-- The settings of processes of silos.
use Rattle.directory_rules.specs.Settings.{Settings}

-- the settings of a process: those given, but that memory alone bounds the silos that it may know, since each that is started
-- again is another one: 2^62 - 1 of them
abbrev pub process_settings : Settings → Settings
process_settings settings = record settings { silos = 4611686018427387903 }
