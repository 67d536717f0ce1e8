use Rattle.thread_tests.proofs.scripts.comes.Given as goal

-- the cluster is of these settings and of the tokens that it is given
abbrev pub ghosts-play_on_threads-L-Charter : goal.ghosts-play_on_threads-L-Charter
ghosts-play_on_threads-L-Charter g a = record { settings = a.settings }

abbrev pub ghosts-play_on_threads-L-Ledger : goal.ghosts-play_on_threads-L-Ledger
ghosts-play_on_threads-L-Ledger g a = record { name = a.tokens.ledger.name; parts = a.tokens.ledger.parts }

abbrev pub ghosts-play_on_threads-L-Names : goal.ghosts-play_on_threads-L-Names
ghosts-play_on_threads-L-Names g a = record { names = a.tokens.marks }

abbrev pub ghosts-play_on_threads-L-LogName : goal.ghosts-play_on_threads-L-LogName
ghosts-play_on_threads-L-LogName g a = record { log = a.tokens.log }
