mod Echoed
