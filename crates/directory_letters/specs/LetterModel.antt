-- How a letter's body of the code is one of the rule.
use Rattle.directory_rules.specs.State as rule
use Rattle.directory_letters.specs.declared.letter.Body.{Body}
use Rattle.directory_letters.specs.declared.letter.Body.TheVariants.{Request, Reply, Ask, Page, Missing, Done, Query, Report, Survey, Empty, Behind, Ahead, Offer}

-- what the letter says, in the rule's words
abbrev pub body_of : Body → rule.Body
body_of (Request request) = rule.Request_letter request
body_of (Reply number reply) = rule.Reply_letter number reply
body_of (Ask range page) = rule.Ask_letter range page
body_of (Page page) = rule.Page_letter page
body_of (Missing range) = rule.Missing_letter range
body_of (Done range) = rule.Done_letter range
body_of (Query range after) = rule.Query_letter range after
body_of (Report report) = rule.Report_letter report
body_of (Survey ranges) = rule.Survey_letter ranges.items
body_of (Empty ranges) = rule.Empty_letter ranges.items
body_of (Behind range) = rule.Behind_letter range
body_of (Ahead range) = rule.Ahead_letter range
body_of (Offer entry) = rule.Offer_letter entry
