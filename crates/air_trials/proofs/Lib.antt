mod Foretold
