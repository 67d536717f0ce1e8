-- The rule refines the protocol.
use Rattle.directory_protocol.specs.Setting.{Setting}
use Rattle.directory_protocol.specs.World as protocol
use Rattle.directory_protocol.specs.Safety.{IsReached}
use Rattle.directory_rules.specs.State.{World}
use Rattle.directory_headline.specs.Setting.{IsSettingOf}
use Rattle.directory_headline.specs.Shown.{Shown}

-- by the setting of its views and places, allowed actions of the protocol reach a world that shows this one
abbrev pub IsRefined : World → Type 0
IsRefined f = (m : Setting) × IsSettingOf m f × (w : protocol.World) × IsReached m w × Shown m f w
