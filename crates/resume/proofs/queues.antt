mod Rebuilding
